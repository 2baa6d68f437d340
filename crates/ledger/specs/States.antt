-- The settlement state (document 01, 'Operations and their refusals').
use Rattle.std.specs.Prelude.{Bool, not, ◌&&◌, ◌||◌, List, ℕ, ◌+◌, ◌*◌, ltb, eqb, ℤ, pos, nat_abs, replicate}
use Rattle.numbers.specs.Lists.{any}
use Rattle.numbers.specs.Slots.{days_back, window_slots}
use Rattle.numbers.specs.PointNumbers.{number_length, digit0, is_number}
use Rattle.heads.specs.Limits.{most_result}
use Rattle.heads.specs.Heads.{content_refusal}
use Rattle.figures.specs.SlotTotals.{plus}
use Rattle.heads.specs.declared.Head.{Head}
use Rattle.ledger.specs.declared.State.{State}

-- 'a state with no points, totals 0 and twenty-two digits 0 as last number'
abbrev pub opened : Head → List ℕ → State
opened h marks = record { head = h; marks = marks; points = 0; totals = replicate window_slots (pos 0); last = replicate number_length digit0 }

-- the state of zeros
abbrev pub no_head : Head
no_head = record { year = 0; month = 0; day = 0; slot = 0; losses = replicate 3 0; contract = 0; count = 0 }

abbrev pub no_state : State
no_state = record {
  head = no_head;
  marks = replicate days_back 0;
  points = 0;
  totals = replicate window_slots (pos 0);
  last = replicate number_length 0;
}

-- THE SLOT TOTALS of a state: six, in Wh. Whoever reads them reads them here.
abbrev pub slot_totals : State → List ℤ
slot_totals state = state.totals

-- 9: 'a state with contents that opening refuses, more points taken than its count, a slot total beyond 4,000,000,000 × points taken on
-- either side of zero, or, with points taken, a last number that is not an allowed point number'
unfoldable pub is_unsound : State → Bool
is_unsound state =
    not (eqb (content_refusal state.head state.marks) 0)
    || ltb state.head.count state.points
    || any (λ total. ltb (most_result * state.points) (nat_abs total)) (slot_totals state)
    || ltb 0 state.points && not (is_number state.last)

-- 'it adds the results to the state's six slot totals, raises points taken by one and keeps the number'
unfoldable pub taken : State → List ℤ → List ℕ → State
taken state found number = record {
  head = state.head;
  marks = state.marks;
  points = state.points + 1;
  totals = plus (slot_totals state) found;
  last = number;
}
