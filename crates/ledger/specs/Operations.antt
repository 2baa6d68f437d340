-- OPENING, ADDING and CLOSING (document 01, 'Operations and their refusals'): what each answers, for every input and every state.
use Rattle.std.specs.Prelude.{Bool, cond, not, ◌&&◌, List, [], ◌∷◌, ◌++◌, ℕ, leb, ltb, eqb, ℤ, length}
use Rattle.numbers.specs.Refusals.{first_told}
use Rattle.numbers.specs.Slots.{no_days, window_slots}
use Rattle.numbers.specs.PointNumbers.{below}
use Rattle.heads.specs.Heads.{head_of, opening_refusal}
use Rattle.points.specs.Points.{kind_of, number_of, form_rows, number_row, value_rows, index_told}
use Rattle.results.specs.SlotResults.{lacks_days, days_told, results}
use Rattle.ledger.specs.States.{opened, no_state, slot_totals, is_unsound, taken}
use Rattle.figures.specs.Figures.{figures_of, no_figures}
use Rattle.figures.specs.declared.Figures.{Figures}
use Rattle.heads.specs.declared.Head.{Head}
use Rattle.ledger.specs.declared.State.{State}

-- THE ANSWERS. The refusal is a number, 0 is accepted.

-- of opening
pub record Opened : Type 0 where
  pub refusal : ℕ
  pub state : State

-- of adding: CR 2, the days as numbers back, nearest first; CR 3, the index of the reading which is too large
pub record Added : Type 0 where
  pub refusal : ℕ
  pub state : State
  pub days : List ℕ
  pub index : ℕ

-- of closing
pub record Closed : Type 0 where
  pub refusal : ℕ
  pub figures : Figures

-- OPENING
unfoldable pub open_of : List ℕ → List ℕ → Opened
open_of head calendar =
    let refusal = opening_refusal head calendar in
    cond (eqb refusal 0)
    (record { refusal = 0; state = opened (head_of head) calendar })
    (record { refusal = refusal; state = no_state })

-- ADDING, its rows and their order

-- 9
abbrev pub unsound_row : State → List (Bool × ℕ)
unsound_row state = (is_unsound state, 9) ∷ []

-- 10: 'count already reached'
abbrev pub reached_row : Head → ℕ → List (Bool × ℕ)
reached_row h points = (leb h.count points, 10) ∷ []

-- 13: 'not six places'
abbrev pub places_row : ℕ → List (Bool × ℕ)
places_row places = (not (eqb places window_slots), 13) ∷ []

-- 15: 'not above the last number (the first point has none before it)'
abbrev pub not_above_row : ℕ → List ℕ → List ℕ → List (Bool × ℕ)
not_above_row points last number = (ltb 0 points && not (below last number), 15) ∷ []

-- 14 and 15
abbrev pub number_rows : ℕ → List ℕ → List ℕ → List (Bool × ℕ)
number_rows points last number = number_row number ++ not_above_row points last number

-- 18: 'fewer than four days', which since CR 5 is where fewer than four are eligible (results `TooFewEligible`)
abbrev pub days_row : Head → List ℕ → ℕ → List ℕ → List (Bool × ℕ)
days_row h marks tag value = (lacks_days h marks (kind_of tag) value, 18) ∷ []

-- 10 to 15: what is told before the value is looked at behind its number
abbrev pub before_value : Head → ℕ → List ℕ → ℕ → List ℕ → ℕ → List (Bool × ℕ)
before_value h points last tag value places =
    reached_row h points
    ++ form_rows tag (length value)
    ++ places_row places
    ++ number_rows points last (number_of value)

-- 10 to 15, 16 or 50, 51 or 52: what is told before the days are chosen
abbrev pub given_tests : Head → ℕ → List ℕ → ℕ → List ℕ → ℕ → List (Bool × ℕ)
given_tests h points last tag value places = before_value h points last tag value places ++ value_rows tag value

-- 10 to 15, 16 or 50, 51 or 52, 18: the refusals other than 9, for the head and calendar, the points taken and the last number, and
-- what is given
abbrev pub point_tests : Head → List ℕ → ℕ → List ℕ → ℕ → List ℕ → ℕ → List (Bool × ℕ)
point_tests h marks points last tag value places = given_tests h points last tag value places ++ days_row h marks tag value

unfoldable pub point_refusal : Head → List ℕ → ℕ → List ℕ → ℕ → List ℕ → ℕ → ℕ
point_refusal h marks points last tag value places = first_told (point_tests h marks points last tag value places)

-- with 9 before them, for a tag, a value and the number of places lent
abbrev pub adding_tests : State → ℕ → List ℕ → ℕ → List (Bool × ℕ)
adding_tests state tag value places =
    unsound_row state ++ point_tests state.head state.marks state.points state.last tag value places

unfoldable pub adding_refusal : State → ℕ → List ℕ → ℕ → ℕ
adding_refusal state tag value places = first_told (adding_tests state tag value places)

-- in the steps of the code: the state, 9 and 10, and all that comes before the days
abbrev pub state_rows : State → List (Bool × ℕ)
state_rows state = unsound_row state ++ reached_row state.head state.points

abbrev pub early_tests : State → ℕ → List ℕ → ℕ → List (Bool × ℕ)
early_tests state tag value places =
    unsound_row state ++ given_tests state.head state.points state.last tag value places

unfoldable pub early_refusal : State → ℕ → List ℕ → ℕ → ℕ
early_refusal state tag value places = first_told (early_tests state tag value places)

-- the results of a value for a state
abbrev pub results_of : State → ℕ → List ℕ → List ℤ
results_of state tag value = results state.head state.marks (kind_of tag) value

-- CR 2: the four days that are told of it
abbrev pub days_told_of : State → ℕ → List ℕ → List ℕ
days_told_of state tag value = days_told state.head state.marks (kind_of tag) value

-- the answer; CR 2: 'A refused call gives four zeros.' CR 3: the index, which is 0 of an accepted call
unfoldable pub add_of : State → ℕ → List ℕ → ℕ → Added
add_of state tag value places =
    let refusal = adding_refusal state tag value places in
    cond (eqb refusal 0)
    (record { refusal = 0; state = taken state (results_of state tag value) (number_of value); days = days_told_of state tag value; index = 0 })
    (record { refusal = refusal; state = state; days = no_days; index = index_told refusal tag value })

-- what the lent places hold afterwards
unfoldable pub places_of : State → ℕ → List ℕ → List ℤ → List ℤ
places_of state tag value places =
    cond (eqb (adding_refusal state tag value (length places)) 0) (results_of state tag value) places

-- CLOSING

-- 20: 'count not reached'
abbrev pub unreached_row : Head → ℕ → List (Bool × ℕ)
unreached_row h points = (ltb points h.count, 20) ∷ []

-- 9 and 20
abbrev pub closing_tests : State → List (Bool × ℕ)
closing_tests state = unsound_row state ++ unreached_row state.head state.points

unfoldable pub closing_refusal : State → ℕ
closing_refusal state = first_told (closing_tests state)

unfoldable pub close_of : State → Closed
close_of state =
    let refusal = closing_refusal state in
    cond (eqb refusal 0)
    (record { refusal = 0; figures = figures_of state.head.contract (slot_totals state) state.points })
    (record { refusal = refusal; figures = no_figures })
