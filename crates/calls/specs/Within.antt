-- THE RESULTS OF AN ACCEPTED ADDING, on what it leaves in the lent places: what crates above may rely on.
use Rattle.std.specs.Prelude.{◌≡◌, List, ℕ, ◌*◌, ◌≤◌, ℤ, pos, nat_abs, length, get_or}
use Rattle.numbers.specs.Slots.{window_slots}
use Rattle.integers.specs.Integers.{sum_ℤ}
use Rattle.heads.specs.Limits.{most_result}
use Rattle.ledger.specs.Operations.{add_of, places_of}
use Rattle.ledger.specs.declared.State.{State}

-- six results, each within 4,000,000,000 on either side of zero, and so within 24,000,000,000 together
pub record SixWithin (found : List ℤ) : Type 0 where
  pub six : length found ≡ window_slots
  pub each : (i : ℕ) → nat_abs (get_or found i (pos 0)) ≤ most_result
  pub together : nat_abs (sum_ℤ found) ≤ window_slots * most_result

-- for every state and every input
abbrev pub ResultsWithin : Type 0
ResultsWithin = (state : State) (tag : ℕ) (value : List ℕ) (places : List ℤ)
    → (add_of state tag value (length places)).refusal ≡ 0
    → SixWithin (places_of state tag value places)
