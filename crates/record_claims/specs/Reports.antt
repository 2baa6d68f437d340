-- WHICH INPUTS A REPORT ACCEPTS (CR 4), which refusal is told of the others, and that the sums fit their words.
use Rattle.std.specs.Prelude.{◌≡◌, ◌↔◌, ◌⊎◌, false, List, ◌∷◌, ◌++◌, ℕ, ◌*◌, ◌^◌, ◌<◌, ◌≤◌, nat_abs, length, All}
use Rattle.numbers.specs.Lists.{any}
use Rattle.numbers.specs.Words.{Bytes}
use Rattle.heads.specs.Limits.{most_points}
use Rattle.heads.specs.Heads.{CountRange}
use Rattle.records.specs.Records.{MadeOf}
use Rattle.records.specs.Rules.{breaks_within}
use Rattle.records.specs.Report.{most_records, Report, no_sums, sums_of, report_of}
use Rattle.records.specs.declared.Record.{Record}
use Rattle.records.specs.declared.Sums.{Sums}
use Rattle.record_claims.specs.Results.{IsResult}

-- the length of 'up to 500 result records of 64 bytes'
pub record HoldsRecords (bytes : List ℕ) : Type 0 where
  pub count : ℕ
  pub whole : length bytes ≡ 64 * count
  pub few : count ≤ 500

-- LENGTH FIRST: 53 is told exactly of the inputs that do not hold whole records, or hold more than 500, whatever their bytes
abbrev pub LengthFirst : Type 0
LengthFirst = (bytes : List ℕ) → ((report_of bytes).refusal ≡ 53) ↔ (HoldsRecords bytes → ⊥)

-- ACCEPTED: of inputs that are made of records exactly those of 500 at most which all are results of accepted closings, so that no settled
-- list is turned away
abbrev pub AcceptedAreResults : Type 0
AcceptedAreResults = (bytes : List ℕ) (records : List (List ℕ))
    → Bytes bytes
    → MadeOf bytes records
    → ((report_of bytes).refusal ≡ 0) ↔ ((length records ≤ most_records) × All IsResult records)

-- LOWEST PLACE: with 54 the place is that of a record which is no result, behind as many that are results
pub record LowestPlace (records : List (List ℕ)) (place : ℕ) : Type 0 where
  pub before : List (List ℕ)
  pub here : List ℕ
  pub behind : List (List ℕ)
  pub are : records ≡ before ++ here ∷ behind
  pub results : All IsResult before
  pub broken : IsResult here → ⊥
  pub counted : place ≡ length before

abbrev pub TellsLowestPlace : Type 0
TellsLowestPlace = (bytes : List ℕ) (records : List (List ℕ))
    → Bytes bytes
    → MadeOf bytes records
    → (report_of bytes).refusal ≡ 54
    → LowestPlace records (report_of bytes).place

-- NOTHING ELSE IS TOLD: no other refusal, no place but with 54, no sum of a refused input
pub record OneRefusal (report : Report) : Type 0 where
  pub refusal : (report.refusal ≡ 0) ⊎ ((report.refusal ≡ 53) ⊎ (report.refusal ≡ 54))
  pub place : (report.refusal ≡ 54 → ⊥) → report.place ≡ 0
  pub sums : (report.refusal ≡ 0 → ⊥) → report.sums ≡ no_sums

abbrev pub TellsOneRefusal : Type 0
TellsOneRefusal = (bytes : List ℕ) → OneRefusal (report_of bytes)

-- THE SUMS FIT words of eight bytes with a sign, of at most 500 records whose lists have up to ten times the points of today
pub record Fit (sums : Sums) : Type 0 where
  pub points : nat_abs sums.points < 2 ^ 63
  pub total : nat_abs sums.total < 2 ^ 63
  pub settled : nat_abs sums.settled < 2 ^ 63
  pub shortfall : nat_abs sums.shortfall < 2 ^ 63
  pub expected : nat_abs sums.expected < 2 ^ 63
  pub kept : nat_abs sums.kept < 2 ^ 63
  pub surplus : nat_abs sums.surplus < 2 ^ 63

abbrev pub SumsFit : Type 0
SumsFit = (range : CountRange)
    → range.most ≤ 10 * most_points
    → (records : List Record)
    → length records ≤ most_records
    → any (breaks_within range) records ≡ false
    → Fit (sums_of records)
