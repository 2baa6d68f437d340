-- What the answer of the code is in the definitions.
use Rattle.std.specs.Prelude.{Result, Ok, Err}
use Rattle.refusals.specs.declared.Refusal.{Refusal}
use Rattle.refusals.specs.Told.{number_of, place_of}
use Rattle.records.specs.declared.Sums.{Sums}
use Rattle.records.specs.Report.{Report, refused}

abbrev pub report_told : Result Sums Refusal → Report
report_told (Ok sums) = record { refusal = 0; place = 0; sums = sums }
report_told (Err refusal) = refused (number_of refusal) (place_of refusal)
