-- The sheet of an answer, and what is printed of an input. Assumes nothing.
use mathlib.Core.Path.{◌≡◌, refl, ap, ◌∙◌}
use Prim.Native.Nat.{ℕ}
use native.Mathlib.Omega.{arith}
use Rattle.std.specs.Prelude.{length, Ok, Err}
use Rattle.std.proofs.lemmas.List.{length-map}
use borrow.Author.Tests.{ne_eqb}
use Rattle.refusals.specs.declared.Refusal.{Refusal}
use Rattle.refusals.specs.Told.{number_of, place_of}
use Rattle.refusals.proofs.Refused.{refused}
use Rattle.lines.specs.Numerals.{digits_of}
use Rattle.records.specs.Records.{record_of, records_of}
use Rattle.records.specs.Report.{Report, report_of}
use Rattle.records.specs.Told.{report_told}
use Rattle.records.specs.declared.Sums.{Sums}
use Rattle.records.proofs.Reporting.{accepted_is, too_long}
use Rattle.records.proofs.Words.{records_are, sum_is}
use Rattle.sheet.specs.Sheet.{sums_lines, refused_line, sheet_of, SumsPrinted, RefusalPrinted, LongerRefused}

-- ---- of an answer

pub sheet_accepted : (sums : Sums) → sheet_of (report_told (Ok sums)) ≡ sums_lines sums
unfolding sheet_of
sheet_accepted sums = refl

pub sheet_refused : (refusal : Refusal) → sheet_of (report_told (Err refusal)) ≡ refused_line (number_of refusal) (place_of refusal)
unfolding sheet_of
sheet_refused refusal = rw (ne_eqb (number_of refusal) 0 (refused refusal))

-- ---- of an input

pub sums_printed : SumsPrinted
unfolding sheet_of
sums_printed bytes records made accepted =
    let count : length (records_of bytes) ≡ length records = ap length (records_are bytes records made) ∙ length-map records record_of in
    rw (
      accepted_is bytes accepted,
      count,
      sum_is bytes records made (λ r. r.points) 6 λ part. refl,
      sum_is bytes records made (λ r. r.total) 0 λ part. refl,
      sum_is bytes records made (λ r. r.settled) 1 λ part. refl,
      sum_is bytes records made (λ r. r.shortfall) 2 λ part. refl,
      sum_is bytes records made (λ r. r.expected) 3 λ part. refl,
      sum_is bytes records made (λ r. r.kept) 4 λ part. refl,
      sum_is bytes records made (λ r. r.surplus) 5 λ part. refl,
    )

refused_text : (report : Report) (refusal : ℕ) → (refusal ≡ 0 → ⊥) → report.refusal ≡ refusal → sheet_of report ≡ refused_line refusal report.place
unfolding sheet_of
refused_text report refusal n e = rw (e, ne_eqb refusal 0 n)

pub refusal_printed : RefusalPrinted
unfolding digits_of
refusal_printed bytes = record {
  size = λ e. refused_text (report_of bytes) 53 (λ z. omega (arith, z)) e;
  rule = λ e. refused_text (report_of bytes) 54 (λ z. omega (arith, z)) e;
}

pub longer_refused : LongerRefused
longer_refused bytes h = (refusal_printed bytes).size (too_long bytes h)
