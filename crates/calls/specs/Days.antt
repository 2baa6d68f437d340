-- THE DAYS THAT ADDING TELLS (CR 2), on what it answers and leaves in the lent places: what a customer is told, and what crates above may
-- rely on.
use Rattle.std.specs.Prelude.{◌≡◌, List, map, ℕ, ℤ, length}
use Rattle.numbers.specs.Slots.{no_days}
use Rattle.baseline.specs.FourDays.{FourDays}
use Rattle.heads.specs.Heads.{test_day}
use Rattle.points.specs.Points.{consumer_tag}
use Rattle.results.specs.SlotResults.{days_of, consumer_quotients_on, rounded}
use Rattle.ledger.specs.Operations.{add_of, places_of}
use Rattle.ledger.specs.declared.State.{State}
use Rattle.ledger.specs.Operations.{Added}

-- of the answer to an adding of this tag and value to this state, and of the six results
pub record TellsDays (state : State) (tag : ℕ) (value : List ℕ) (answer : Added) (six : List ℤ) : Type 0 where
  -- a consumer that is taken: its four chosen days, different eligible ones, nearest first
  pub consumer : answer.refusal ≡ 0 → tag ≡ consumer_tag
      → (answer.days ≡ days_of state.head state.marks value) × FourDays (test_day state.head) state.marks answer.days
  -- and its results are those by the baseline on the days that are told
  pub worked : answer.refusal ≡ 0 → tag ≡ consumer_tag → six ≡ map rounded (consumer_quotients_on state.head value answer.days)
  -- a point of another kind
  pub other : (tag ≡ consumer_tag → ⊥) → answer.days ≡ no_days
  -- a refused call, whatever its number
  pub refused : (answer.refusal ≡ 0 → ⊥) → answer.days ≡ no_days

-- for every state and every input
abbrev pub AddingTellsDays : Type 0
AddingTellsDays = (state : State) (tag : ℕ) (value : List ℕ) (places : List ℤ)
    → TellsDays state tag value (add_of state tag value (length places)) (places_of state tag value places)
