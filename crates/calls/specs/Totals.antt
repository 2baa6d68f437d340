-- TOTALS FROM THE READINGS (document 01, 'Closing figures': 'all results of all points and slots'): what a state holds after any calls.
use Rattle.std.specs.Prelude.{◌≡◌, List, [], ◌∷◌, map, ℕ, ℤ, pos, length, get_or, replicate}
use Rattle.numbers.specs.Lists.{run}
use Rattle.numbers.specs.Slots.{window_slots}
use Rattle.numbers.specs.PointNumbers.{number_length, digit0}
use Rattle.integers.specs.Integers.{sum_ℤ}
use Rattle.heads.specs.Heads.{head_of}
use Rattle.points.specs.Points.{Point, kind_of, number_of}
use Rattle.results.specs.SlotResults.{results}
use Rattle.ledger.specs.States.{no_state, slot_totals}
use Rattle.ledger.specs.Operations.{open_of}
use Rattle.calls.specs.Calls.{Call, replies, state_after, points_taken}
use Rattle.heads.specs.declared.Head.{Head}
use Rattle.ledger.specs.declared.State.{State}

-- slot j of a point, rounded
abbrev pub slot_result : Head → List ℕ → ℕ → Point → ℤ
slot_result head calendar j p = get_or (results head calendar (kind_of p.tag) p.value) j (pos 0)

-- slot j of all of some points together
abbrev pub slot_total : Head → List ℕ → List Point → ℕ → ℤ
slot_total head calendar points j = sum_ℤ (map (slot_result head calendar j) points)

-- the number of the last of some points; before the first one, the number given
abbrev pub last_number : List ℕ → List Point → List ℕ
last_number last [] = last
last_number last (p ∷ points) = last_number (number_of p.value) points

-- a state that holds a head, a calendar and some points, and nothing else
pub record Holds (head : Head) (calendar : List ℕ) (points : List Point) (state : State) : Type 0 where
  pub same_head : state.head ≡ head
  pub same_calendar : state.marks ≡ calendar
  pub counted : state.points ≡ length points
  pub last : state.last ≡ last_number (replicate number_length digit0) points
  pub totals : slot_totals state ≡ run (slot_total head calendar points) 0 window_slots

-- after an opening and calls, refused ones among them
pub record FromReadings (head calendar : List ℕ) (calls : List Call) : Type 0 where
  pub opened : let state = (open_of head calendar).state in
      (open_of head calendar).refusal ≡ 0 → Holds (head_of head) calendar (points_taken calls (replies state calls)) (state_after state calls)
  -- a refused opening leads to nothing
  pub refused : let state = (open_of head calendar).state in
      ((open_of head calendar).refusal ≡ 0 → ⊥) → (state_after state calls ≡ no_state) × (points_taken calls (replies state calls) ≡ [])

abbrev pub TotalsFromReadings : Type 0
TotalsFromReadings = (head calendar : List ℕ) (calls : List Call) → FromReadings head calendar calls
