-- The number, then the value: behind the other groups of rows, which told none.
use mathlib.Core.Path.{◌≡◌, refl, ap, sym, ◌∙◌}
use mathlib.Core.Bool.{Bool}
use mathlib.Core.List.{List, ◌++◌}
use Prim.Native.Nat.{ℕ}
use borrow.Author.Tests.{eq-eqb}
use lib.ListN.{length}
use Rattle.numbers.specs.Lists.{any}
use Rattle.numbers.specs.Refusals.{first_told}
use Rattle.numbers.specs.Slots.{window_slots}
use Rattle.numbers.proofs.Refusals.{tells, passes}
use Rattle.refusals.proofs.Refused.{refused, handed_on}
use Rattle.points.specs.Points.{number_of, form_rows, value_rows, with_index}
use Rattle.points.proofs.Indexes.{no_index_in}
use Rattle.ledger.specs.Operations.{state_rows, places_row, number_rows, early_refusal}
use Rattle.ledger.specs.declared.State.{State}
use Rattle.ledger.proofs.adding.early_point.Goals as goal

module _ (state : State) (tag : ℕ) (value : List ℕ) (places : ℕ) where
  abbrev forms : List (Bool × ℕ)
  forms = form_rows tag (length value)

  abbrev numbers : List (Bool × ℕ)
  numbers = number_rows state.points state.last (number_of value)

  abbrev values : List (Bool × ℕ)
  values = value_rows tag value

  -- the state, the form and the places tell none
  numbers_next : 0 ≡ first_told (state_rows state) → 0 ≡ first_told forms → places ≡ window_slots
      → early_refusal state tag value places ≡ first_told (numbers ++ values)
  unfolding early_refusal
  numbers_next e f six =
      let from_places = places_row places ++ numbers ++ values in
      passes (state_rows state) (forms ++ from_places) e tt refl ∙ passes forms from_places f tt refl ∙ simp (eq-eqb _ _ six)

  -- nor does the number
  values_next : 0 ≡ first_told (state_rows state) → 0 ≡ first_told forms → places ≡ window_slots → 0 ≡ first_told numbers
      → with_index (first_told values) tag value ≡ with_index (early_refusal state tag value places) tag value
  values_next e f six told = ap (λ n. with_index n tag value) (sym (numbers_next e f six ∙ passes numbers values told tt refl))

pub returns-in_err-number_refusal-clause-told : goal.returns-in_err-number_refusal-clause-told
unfolding any
returns-in_err-number_refusal-clause-told c =
    let a = c.args in
    let v = a.value.now in
    let p = c.in_ok-point.ensures in
    let next = numbers_next a.state a.tag v a.places c.in_ok-state_refusal.ensures p.told c.if-places-ne-WINDOW_SLOTS.false in
    let rows = numbers a.state a.tag v a.places in
    let e = c.in_err-number_refusal in
    let told = rw (c.number.ensures, p.given.1) at e.ensures in
    rw (handed_on c.from_residual-in_err-number_refusal.result e.field-0.0 c.from_residual-in_err-number_refusal.ensures.1)
    (no_index_in a.tag v rows e.field-0.0 tt told (tells rows (values a.state a.tag v a.places) told (refused e.field-0.0) ∙ sym next))

pub returns-in_err-value_refusal-clause-told : goal.returns-in_err-value_refusal-clause-told
returns-in_err-value_refusal-clause-told c =
    let a = c.args in
    let v = a.value.now in
    let p = c.in_ok-point.ensures in
    let number = rw (c.number.ensures, p.given.1) at c.in_ok-number_refusal.ensures in
    let e = c.in_err-value_refusal in
    rw (handed_on c.from_residual-in_err-value_refusal.result e.field-0.0 c.from_residual-in_err-value_refusal.ensures.1)
    (rw (p.given.0, p.given.1) at e.ensures ∙ values_next a.state a.tag v a.places c.in_ok-state_refusal.ensures p.told c.if-places-ne-WINDOW_SLOTS.false number)

pub returns-clause-told : goal.returns-clause-told
returns-clause-told c =
    let a = c.args in
    let v = a.value.now in
    let p = c.in_ok-point.ensures in
    let number = rw (c.number.ensures, p.given.1) at c.in_ok-number_refusal.ensures in
    rw (p.given.0, p.given.1) at c.in_ok-value_refusal.ensures ∙ values_next a.state a.tag v a.places c.in_ok-state_refusal.ensures p.told c.if-places-ne-WINDOW_SLOTS.false number
