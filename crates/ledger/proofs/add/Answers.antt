-- An early refusal, too few days, and the point taken.
use mathlib.Core.Path.{◌≡◌, refl, ap, sym, ◌∙◌}
use mathlib.Core.Bool.{false}
use mathlib.Core.List.{List}
use Prim.Native.Nat.{ℕ}
use native.Mathlib.Omega.{arith}
use lib.ListN.{length}
use Rattle.points.specs.Points.{kind_of, with_index}
use Rattle.results.specs.SlotResults.{lacks_days}
use Rattle.std.specs.Prelude.{Some}
use Rattle.results.specs.Steps.{found_of}
use Rattle.results.specs.declared.Found.{Found}
use Rattle.refusals.specs.declared.Refusal.TheVariants.{TooFewDays}
use Rattle.refusals.proofs.Refused.{handed_on}
use Rattle.ledger.specs.States.{taken}
use Rattle.ledger.specs.Operations.{early_refusal, adding_refusal, results_of, days_told_of}
use Rattle.ledger.specs.declared.State.{State}
use Rattle.ledger.proofs.AddSteps.{days_lack, days_suffice, Early, early, took, places_good, refused, early_refused}
use Rattle.ledger.proofs.add.Goals as goal

-- behind the early refusals
module _ (state : State) (tag : ℕ) (value : List ℕ) (places : ℕ)
    (none : record { number = 0; index = 0 } ≡ with_index (early_refusal state tag value places) tag value) where
  facts : Early state tag value places
  facts = early state tag value places (sym (ap (λ r. r.number) none))

  -- behind the choice of days
  module _ {answer : Found} (is : Some answer ≡ found_of state.head state.marks (kind_of tag) value) where
    found : (lacks_days state.head state.marks (kind_of tag) value ≡ false) × (answer.found ≡ results_of state tag value) × (answer.days ≡ days_told_of state tag value)
    found = days_suffice state.head state.marks (kind_of tag) value is

    accepted : adding_refusal state tag value places ≡ 0
    accepted = facts.days ∙ simp found.0

pub returns-in_err-point : goal.returns-in_err-point
returns-in_err-point c =
    let a = c.args in
    let e = c.in_err-point in
    let w = early_refused a.state a.tag a.value.now a.places.now e.field-0.0 e.ensures.told in
    record { answer = rw (handed_on c.from_residual.result e.field-0.0 c.from_residual.ensures.1) w.0; lent = w.1 }

pub results_of-requires : goal.results_of-requires
results_of-requires c =
    let a = c.args in
    let f = facts a.state a.tag a.value.now (length a.places.now) c.in_ok-point.ensures.told in
    let g = f.given in
    let p = c.in_ok-point.ensures.given in
    rw (p.0, p.1) (record { content = f.sound.content; known = g.known; size = g.size; fit = g.fit; small = g.small })

pub returns-in_err-answer : goal.returns-in_err-answer
returns-in_err-answer c =
    let a = c.args in
    let f = facts a.state a.tag a.value.now (length a.places.now) c.in_ok-point.ensures.told in
    let p = c.in_ok-point.ensures.given in
    let e = c.in_err-answer in
    let none = rw (p.0, p.1) at (sym e.ensures.ok_part ∙ c.results_of.ensures) in
    let few = days_lack a.state.head a.state.marks (kind_of a.tag) a.value.now none in
    let told : adding_refusal a.state a.tag a.value.now (length a.places.now) ≡ 18 = f.days ∙ simp few in
    let w = refused a.state a.tag a.value.now a.places.now told (λ z. absurd (omega arith)) refl in
    let handed = handed_on c.from_residual-in_err-answer.result e.field-0.0 c.from_residual-in_err-answer.ensures.1 in
    let cause : e.field-0.0 ≡ TooFewDays = let same = rw e.ensures.ok_part at e.ensures.value in cc in
    record { answer = rw (handed, cause) w.0; lent = w.1 }

pub put-requires : goal.put-requires
put-requires c =
    let a = c.args in
    (facts a.state a.tag a.value.now (length a.places.now) c.in_ok-point.ensures.told).given.six

pub add_totals-totals-requires : goal.add_totals-totals-requires
add_totals-totals-requires c =
    let a = c.args in
    let n = length a.places.now in
    let f = facts a.state a.tag a.value.now n c.in_ok-point.ensures.told in
    let p = c.in_ok-point.ensures.given in
    let is = rw (p.0, p.1) at (sym c.in_ok-answer.ensures.ok_part ∙ c.results_of.ensures) in
    let found = found a.state a.tag a.value.now n c.in_ok-point.ensures.told is in
    λ i. rw (c.slot_totals-before.ensures, found.1) (f.sums i)

pub overflow_add-result : goal.overflow_add-result
overflow_add-result c =
    let a = c.args in
    record { fits = (facts a.state a.tag a.value.now (length a.places.now) c.in_ok-point.ensures.told).next }

pub returns : goal.returns
unfolding taken
returns c =
    let a = c.args in
    let n = length a.places.now in
    let p = c.in_ok-point.ensures.given in
    let is = rw (p.0, p.1) at (sym c.in_ok-answer.ensures.ok_part ∙ c.results_of.ensures) in
    let found = found a.state a.tag a.value.now n c.in_ok-point.ensures.told is in
    let accepted = accepted a.state a.tag a.value.now n c.in_ok-point.ensures.told is in
    record {
      answer = rw (c.add_totals-totals.ensures, c.slot_totals-before.ensures, c.number-last.ensures, p.1, found.1) (took a.state a.tag a.value.now n accepted found.2);
      lent = c.put.ensures ∙ found.1 ∙ sym (places_good a.state a.tag a.value.now a.places.now accepted);
    }
