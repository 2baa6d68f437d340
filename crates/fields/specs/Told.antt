-- What cutting answers, as the definitions have it.
use Rattle.std.specs.Prelude.{Result, Ok, Err, length}
use Rattle.refusals.specs.Told.{number_of}
use Rattle.refusals.specs.declared.Refusal.{Refusal}
use Rattle.fields.specs.Fields.{Field, Value, Refused}
use Rattle.fields.specs.declared.Cut.{Cut}

-- the field answer: the tag and the length of the value, or the number of the refusal
abbrev pub field_told : Result Cut Refusal → Field
field_told (Ok cut) = Value cut.tag (length cut.value.now)
field_told (Err refusal) = Refused (number_of refusal)
