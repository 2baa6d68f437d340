-- WHERE ADDING TELLS 18 (CR 5): '18 remains for a consumer with fewer than four eligible days in all thirty, and is given in no other
-- case.'
use Rattle.std.specs.Prelude.{◌≡◌, List, ℕ, ◌<◌, ◌≤◌, length}
use Rattle.calendar.specs.Eligible.{eligible_days}
use Rattle.heads.specs.Heads.{test_day}
use Rattle.points.specs.Points.{consumer_tag}
use Rattle.ledger.specs.Operations.{early_refusal, add_of}
use Rattle.ledger.specs.declared.State.{State}
use Rattle.ledger.specs.Operations.{Added}

-- of the answer to an adding to this state; `early` is what the rows before 18 tell
pub record TellsEighteen (state : State) (tag early : ℕ) (answer : Added) : Type 0 where
  pub only : answer.refusal ≡ 18 → (tag ≡ consumer_tag) × (length (eligible_days (test_day state.head) state.marks) < 4)
  -- it is told of each such consumer that nothing before it refuses
  pub due : early ≡ 0 → tag ≡ consumer_tag → length (eligible_days (test_day state.head) state.marks) < 4 → answer.refusal ≡ 18
  -- none of them is taken
  pub taken : answer.refusal ≡ 0 → tag ≡ consumer_tag → 4 ≤ length (eligible_days (test_day state.head) state.marks)

-- for every state and every input
abbrev pub AddingTellsEighteen : Type 0
AddingTellsEighteen = (state : State) (tag : ℕ) (value : List ℕ) (places : ℕ)
    → TellsEighteen state tag (early_refusal state tag value places) (add_of state tag value places)
