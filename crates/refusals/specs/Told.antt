-- The numbers by which document 01, 'Operations and their refusals', and the change requests to it name the refusals, and what an answer
-- tells.
use Rattle.std.specs.Prelude.{Bool, true, false, ℕ, Result, Ok, Err}
use Rattle.refusals.specs.declared.Refusal.{Refusal}
use Rattle.refusals.specs.declared.Refusal.TheVariants.{Lengths, NoSuchDate, Weekend, WindowSlot, Loss, Contract, Count, Mark}
use Rattle.refusals.specs.declared.Refusal.TheVariants.{UnsoundState, CountReached, PointTag, PointLength, NotSixPlaces, PointNumber}
use Rattle.refusals.specs.declared.Refusal.TheVariants.{NumberNotAbove, ClassOrBaseline, Share, ReadingOfTestDay, ReadingOfDaysBack}
use Rattle.refusals.specs.declared.Refusal.TheVariants.{TooFewDays, CountNotReached, BookCut, LentBytes, WrongTag, BytesAfter}
use Rattle.refusals.specs.declared.Refusal.TheVariants.{RecordsLength, RecordRule}

-- the number of a refusal
abbrev pub number_of : Refusal → ℕ
number_of Lengths = 1
number_of NoSuchDate = 2
number_of Weekend = 3
number_of WindowSlot = 4
number_of Loss = 5
number_of Contract = 6
number_of Count = 7
number_of Mark = 8
number_of UnsoundState = 9
number_of CountReached = 10
number_of PointTag = 11
number_of PointLength = 12
number_of NotSixPlaces = 13
number_of PointNumber = 14
number_of NumberNotAbove = 15
number_of ClassOrBaseline = 16
number_of Share = 50
number_of (ReadingOfTestDay index) = 51
number_of (ReadingOfDaysBack index) = 52
number_of TooFewDays = 18
number_of CountNotReached = 20
number_of BookCut = 31
number_of LentBytes = 40
number_of WrongTag = 41
number_of BytesAfter = 42
number_of RecordsLength = 53
number_of (RecordRule place) = 54

-- CR 3: the index that is told with it, which is 0 in every other answer
abbrev pub index_of : Refusal → ℕ
index_of (ReadingOfTestDay index) = index
index_of (ReadingOfDaysBack index) = index
index_of refusal = 0

-- CR 4: the place of the record, which is told with 54
abbrev pub place_of : Refusal → ℕ
place_of (RecordRule place) = place
place_of refusal = 0

-- the number that an answer tells: 0 is accepted
abbrev pub number_told : {A : Type 0} → Result A Refusal → ℕ
number_told (Ok x) = 0
number_told (Err refusal) = number_of refusal

-- the index that it tells
abbrev pub index_told : {A : Type 0} → Result A Refusal → ℕ
index_told (Ok x) = 0
index_told (Err refusal) = index_of refusal

-- accepted where a test holds
abbrev pub unless : Bool → Refusal → Result (Unit {0}) Refusal
unless true refusal = Ok tt
unless false refusal = Err refusal
