-- Adding tells the first large reading. Assumes nothing.
use mathlib.Core.Path.{◌≡◌}
use mathlib.Core.Bool.{Bool}
use mathlib.Core.List.{List, ◌++◌}
use Prim.Native.Nat.{ℕ}
use native.Mathlib.Decide.{ℕ_discrete}
use Rattle.numbers.specs.Lists.{any}
use Rattle.points.specs.Points.{index_told}
use Rattle.points.proofs.TooLarge.{not_seventeen, tells_reading}
use Rattle.ledger.specs.Operations.{unsound_row, before_value, days_row, adding_refusal, add_of}
use Rattle.ledger.specs.declared.State.{State}
use Rattle.ledger.proofs.Sound.{add_refusal, add_good, add_bad}
use Rattle.calls.specs.TooLarge.{AddingTellsReading}

module _ (state : State) (tag : ℕ) (value : List ℕ) (places : ℕ) where
  index_told_lem : (add_of state tag value places).index ≡ index_told (add_of state tag value places).refusal tag value
  index_told_lem = go (ℕ_discrete (adding_refusal state tag value places) 0)
    where
      go : Dec (adding_refusal state tag value places ≡ 0) → (add_of state tag value places).index ≡ index_told (add_of state tag value places).refusal tag value
      go (yes e) = rw (add_good state tag value places e)
      go (no n) = rw (add_bad state tag value places n)

  abbrev before : List (Bool × ℕ)
  before = unsound_row state ++ before_value state.head state.points state.last tag value places

  abbrev after : List (Bool × ℕ)
  after = days_row state.head state.marks tag value

  pub adding_not_seventeen : (add_of state tag value places).refusal ≡ 17 → ⊥
  unfolding adding_refusal any
  adding_not_seventeen = not_seventeen tag value before after tt tt tt (add_refusal state tag value places)

pub adding_tells_reading : AddingTellsReading
unfolding adding_refusal any
adding_tells_reading state tag value places =
    tells_reading tag value (before state tag value places) (after state tag value places) tt tt tt
    (add_refusal state tag value places) (index_told_lem state tag value places)
