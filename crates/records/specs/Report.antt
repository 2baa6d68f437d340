-- THE HALF-YEAR REPORT (CR 4): the refusal, the place of the record that it is about, and the sums.
use Rattle.std.specs.Prelude.{Bool, cond, not, ◌&&◌, List, [], ◌∷◌, ◌++◌, map, ℕ, suc, ◌*◌, ◌%◌, leb, eqb, ℤ, length}
use Rattle.numbers.specs.Lists.{any}
use Rattle.numbers.specs.Refusals.{first_told}
use Rattle.integers.specs.Integers.{sum_ℤ}
use Rattle.records.specs.Records.{record_length, records_of}
use Rattle.records.specs.Rules.{breaks_rule}
use Rattle.records.specs.declared.Record.{Record}
use Rattle.records.specs.declared.Sums.{Sums}

-- 'up to 500 result records'
abbrev pub most_records : ℕ
most_records = 500

-- 53: 'length no multiple of 64 or above 500 records'
abbrev pub is_length : ℕ → Bool
is_length size = eqb (size % record_length) 0 && leb size (record_length * most_records)

abbrev pub length_row : ℕ → List (Bool × ℕ)
length_row size = (not (is_length size), 53) ∷ []

-- 54: 'a record that breaks such a rule'
abbrev pub rule_row : List Record → List (Bool × ℕ)
rule_row records = (any breaks_rule records, 54) ∷ []

-- 53 'first'
abbrev pub report_tests : List ℕ → List (Bool × ℕ)
report_tests bytes = length_row (length bytes) ++ rule_row (records_of bytes)

-- 'lowest place first', 'the place from 0': that of the first record which breaks a rule
unfoldable pub first_broken : List Record → ℕ
first_broken [] = 0
first_broken (r ∷ records) = cond (breaks_rule r) 0 (suc (first_broken records))

-- the sum over the records of one of their words
abbrev pub sum_of : (Record → ℤ) → List Record → ℤ
sum_of word records = sum_ℤ (map word records)

-- 'records, then the sums points, total, settled, shortfall, expected, kept and surplus'
abbrev pub sums_of : List Record → Sums
sums_of records = record {
  records = length records;
  points = sum_of (λ r. r.points) records;
  total = sum_of (λ r. r.total) records;
  settled = sum_of (λ r. r.settled) records;
  shortfall = sum_of (λ r. r.shortfall) records;
  expected = sum_of (λ r. r.expected) records;
  kept = sum_of (λ r. r.kept) records;
  surplus = sum_of (λ r. r.surplus) records;
}

-- THE ANSWER: 0, the place 0 and the sums; or the refusal, with 54 the place, and sums of zeros
pub record Report : Type 0 where
  pub refusal : ℕ
  pub place : ℕ
  pub sums : Sums

-- 'no records gives zeros', and so does a refusal
abbrev pub no_sums : Sums
no_sums = sums_of []

abbrev pub refused : ℕ → ℕ → Report
refused refusal place = record { refusal = refusal; place = place; sums = no_sums }

-- the place that is told with a refusal
abbrev pub place_told : ℕ → List Record → ℕ
place_told refusal records = cond (eqb refusal 54) (first_broken records) 0

-- by the refusal, 0 where there is none
abbrev pub answer : ℕ → List Record → Report
answer refusal records =
    cond (eqb refusal 0)
    (record { refusal = 0; place = 0; sums = sums_of records })
    (refused refusal (place_told refusal records))

unfoldable pub report_of : List ℕ → Report
report_of bytes = answer (first_told (report_tests bytes)) (records_of bytes)
