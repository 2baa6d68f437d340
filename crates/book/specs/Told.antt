-- What the answers of the code are in the definitions: a refused reading gives the state of zeros.
use Rattle.std.specs.Prelude.{Result, Ok, Err}
use Rattle.refusals.specs.declared.Refusal.{Refusal}
use Rattle.refusals.specs.Told.{number_of}
use Rattle.ledger.specs.declared.State.{State}
use Rattle.book.specs.Endings.{Ending, refused_with}

abbrev pub ending_told : Result State Refusal → Ending
ending_told (Ok state) = record { refusal = 0; state = state }
ending_told (Err refusal) = refused_with (number_of refusal)
