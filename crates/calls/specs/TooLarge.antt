-- THE READING THAT ADDING TELLS (CR 3).
use Rattle.std.specs.Prelude.{Bool, List, ◌++◌, ℕ}
use Rattle.points.specs.Points.{unfit_row}
use Rattle.points.specs.TooLarge.{TellsReading}
use Rattle.ledger.specs.Operations.{unsound_row, before_value, add_of}
use Rattle.ledger.specs.declared.State.{State}

-- 9 to 15, 16 or 50: what is told before the readings; 18 comes behind them
abbrev pub before_readings : State → ℕ → List ℕ → ℕ → List (Bool × ℕ)
before_readings state tag value places =
    unsound_row state ++ before_value state.head state.points state.last tag value places ++ unfit_row tag value

-- for every state and every input
abbrev pub AddingTellsReading : Type 0
AddingTellsReading = (state : State) (tag : ℕ) (value : List ℕ) (places : ℕ)
    → let answer = add_of state tag value places in
    TellsReading (before_readings state tag value places) tag value answer.refusal answer.index
