-- DEMAND 2, its second half: a book that we write reads back and gives 0, and a book that is read in full would be written with the same
-- bytes.
use Rattle.std.specs.Prelude.{◌≡◌, Bool, true, not, ◌&&◌, List, [], ◌∷◌, ◌++◌, map, ℕ, ◌+◌, T, length}
use Rattle.numbers.specs.Lists.{gather}
use Rattle.numbers.specs.Words.{Bytes}
use Rattle.numbers.specs.PointNumbers.{below}
use Rattle.numbers.specs.Slots.{window_slots}
use Rattle.heads.specs.Heads.{head_of}
use Rattle.points.specs.Points.{Point, kind_of, number_of}
use Rattle.results.specs.SlotResults.{lacks_days}
use Rattle.ledger.specs.Operations.{close_of}
use Rattle.book.specs.Reading.{good, Contents, Book, read_book}
use Rattle.fields.specs.Fields.{header_length, written}
pub use Rattle.writing.specs.Writing.{head_room}
use Rattle.writing.specs.Writing.{written_head, head_writing_refusal, point_writing_answer}
use Rattle.book.specs.Settling.{result_length, settling_refusal}
use Rattle.calls.specs.Calls.{Call, adding, closing, accepted, closed, program}

-- 'rising in number', after a number and from the first point on
abbrev pub rises_after : List ℕ → List Point → Bool
rises_after number [] = true
rises_after number (p ∷ points) = below number (number_of p.value) && rises_after (number_of p.value) points

abbrev pub rises : List Point → Bool
rises [] = true
rises (p ∷ points) = rises_after (number_of p.value) points

-- what writing puts for a head, a calendar and points, one after the other
unfoldable pub written_book : Contents → List ℕ
written_book b = written_head b.head b.calendar ++ gather (λ p. written p.tag p.value) b.points

-- what a point's field takes
abbrev pub room_for : Point → ℕ
room_for p = header_length + length p.value

abbrev pub Each : (Point → Type 0) → List Point → Type 0
Each P [] = Unit {0}
Each P (p ∷ points) = P p × Each P points

-- 'points as many as its head says, rising in number and each able to show its days', of a head and points that the writing calls take
pub record Writable (b : Contents) : Type 0 where
  pub head : head_writing_refusal b.head b.calendar head_room ≡ 0
  pub count : length b.points ≡ (head_of b.head).count
  pub rising : T (rises b.points)
  pub taken : Each (λ p. (point_writing_answer p.tag p.value (room_for p)).number ≡ 0) b.points
  pub shows_days : Each (λ p. T (not (lacks_days (head_of b.head) b.calendar (kind_of p.tag) p.value))) b.points

-- the calls that a book stands for
abbrev pub calls_of : List Point → List Call
calls_of points = map (λ p. adding p.tag p.value window_slots) points ++ closing ∷ []

-- 'reads back to the head, calendar and points put in'
abbrev pub ReadsBack : Type 0
ReadsBack = (b : Contents) → Writable b → (r : Book) × (read_book (written_book b) ≡ good r) × (r.contents ≡ b)

-- A book is read in full exactly when Whole book answers 0.
pub record InFull (book : List ℕ) : Type 0 where
  pub gives : (r : Book) → read_book book ≡ good r → settling_refusal book result_length ≡ 0
  pub back : settling_refusal book result_length ≡ 0 → (r : Book) × (read_book book ≡ good r)

abbrev pub ReadInFull : Type 0
ReadInFull = (book : List ℕ) → InFull book

-- Such a book not only reads back: Whole book answers 0.
abbrev pub WrittenGivesZero : Type 0
WrittenGivesZero = (b : Contents) → Writable b → settling_refusal (written_book b) result_length ≡ 0

-- What a book that is read in full reads back to is what the writing calls take, whatever its bytes.
abbrev pub ReadsWritable : Type 0
ReadsWritable = (book : List ℕ) (r : Book) → read_book book ≡ good r → Writable r.contents

-- 'A book that is read in full would be written with the same bytes.'
abbrev pub WritesSame : Type 0
WritesSame = (book : List ℕ) → Bytes book → (r : Book) → read_book book ≡ good r → written_book r.contents ≡ book

-- A book that gives 0 is one that is read in full, and its figures are those of the calls on the values handed on.
abbrev pub GivesFigures : Type 0
GivesFigures = (book : List ℕ)
    → settling_refusal book result_length ≡ 0
    → (r : Book)
    × (read_book book ≡ good r)
    × (program r.contents.head r.contents.calendar (calls_of r.contents.points)
    ≡ accepted ∷ map (λ p. accepted) r.contents.points ++ closed (close_of r.state).figures ∷ [])
