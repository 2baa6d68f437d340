-- A book that comes field by field has the text of the whole book. Assumes nothing.
use mathlib.Core.Path.{ap}
use Rattle.feeding.proofs.FieldByField.{field_by_field}
use Rattle.printing.specs.Printed.{text_of, PrintedFieldByField}

pub printed_field_by_field : PrintedFieldByField
printed_field_by_field book n enough = ap text_of (field_by_field book n enough).1
