-- The half-year reports hold, by computing. Assumes nothing.
use mathlib.Core.Path.{refl}
use Rattle.numbers.specs.Lists.{run, any, gather}
use Rattle.numbers.specs.Words.{bytes_of}
use Rattle.integers.specs.Integers.{sum_ℤ}
use Rattle.lines.specs.Numerals.{digits_of}
use Rattle.records.specs.Records.{records_of}
use Rattle.records.specs.Rules.{breaks_within}
use Rattle.records.specs.Report.{first_broken, report_of}
use Rattle.sheet.specs.Sheet.{sheet_of}
use Rattle.worked_examples.specs.Reports.{ReportExamples}

pub report_examples : ReportExamples
unfolding run any gather bytes_of sum_ℤ digits_of records_of breaks_within first_broken report_of sheet_of
report_examples = record { none = refl; below_zero = refl; two = refl; second_breaks = refl; one_byte_more = refl }
