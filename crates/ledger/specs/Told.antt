-- What the answers of the code are in the definitions: a refused opening gives a state of zeros, a refused adding the state that it was
-- given and no days, a refused closing no figures.
use Rattle.std.specs.Prelude.{Result, Ok, Err}
use Rattle.refusals.specs.declared.Refusal.{Refusal}
use Rattle.refusals.specs.Told.{number_of, index_of}
use Rattle.numbers.specs.Slots.{no_days}
use Rattle.figures.specs.Figures.{no_figures}
use Rattle.figures.specs.declared.Figures.{Figures}
use Rattle.ledger.specs.States.{no_state}
use Rattle.ledger.specs.Operations.{Opened, Added, Closed}
use Rattle.ledger.specs.declared.State.{State}
use Rattle.ledger.specs.declared.Added.{Added as Given}

abbrev pub opened_told : Result State Refusal → Opened
opened_told (Ok state) = record { refusal = 0; state = state }
opened_told (Err refusal) = record { refusal = number_of refusal; state = no_state }

-- of the state that was given
abbrev pub added_told : State → Result Given Refusal → Added
added_told state (Ok added) = record { refusal = 0; state = added.state; days = added.days; index = 0 }
added_told state (Err refusal) = record { refusal = number_of refusal; state = state; days = no_days; index = index_of refusal }

abbrev pub closed_told : Result Figures Refusal → Closed
closed_told (Ok figures) = record { refusal = 0; figures = figures }
closed_told (Err refusal) = record { refusal = number_of refusal; figures = no_figures }
