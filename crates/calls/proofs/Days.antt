-- Adding tells the four days of a consumer that it takes, by which its results are worked, and of every other call zeros. Assumes nothing.
use mathlib.Core.Path.{◌≡◌, sym, ◌∙◌}
use mathlib.Core.Bool.{false}
use mathlib.Core.List.{List, map}
use Prim.Native.Nat.{ℕ}
use native.Mathlib.Decide.{ℕ_discrete}
use lib.ListN.{length}
use Rattle.numbers.specs.Slots.{no_days}
use Rattle.numbers.proofs.Refusals.{untold}
use Rattle.baseline.specs.FourDays.{FourDays}
use Rattle.baseline.proofs.FourDays.{chosen_are_four}
use Rattle.heads.specs.Heads.{test_day}
use Rattle.points.specs.Points.{consumer, readings_of, consumer_tag}
use Rattle.points.proofs.PointKinds.{of_tag}
use Rattle.results.specs.SlotResults.{days_of, lacks_days, consumer_quotients_on, quotients, rounded}
use Rattle.results.proofs.SlotResults.{no_days_lem}
use Rattle.ledger.specs.Operations.{days_row, adding_refusal, results_of, days_told_of, add_of}
use Rattle.ledger.specs.declared.State.{State}
use Rattle.ledger.proofs.Sound.{add_refusal, add_good, add_bad}
use Rattle.ledger.proofs.AddSteps.{accepted, places_good}
use Rattle.calls.specs.Days.{AddingTellsDays}

module _ (state : State) (tag : ℕ) (value : List ℕ) (places : ℕ) where
  refused_none : (adding_refusal state tag value places ≡ 0 → ⊥) → (add_of state tag value places).days ≡ no_days
  refused_none n = rw (add_bad state tag value places n)

  told : adding_refusal state tag value places ≡ 0 → (add_of state tag value places).days ≡ days_told_of state tag value
  told e = rw (add_good state tag value places e)

  other_none : (tag ≡ consumer_tag → ⊥) → Dec (adding_refusal state tag value places ≡ 0) → (add_of state tag value places).days ≡ no_days
  other_none n (yes e) = told e ∙ no_days_lem state.head state.marks tag value n
  other_none n (no r) = refused_none r

  -- a consumer that is taken
  module _ (e : adding_refusal state tag value places ≡ 0) (t : tag ≡ consumer_tag) where
    its_days : (add_of state tag value places).days ≡ days_of state.head state.marks value
    its_days = told e ∙ rw (of_tag tag consumer_tag t)

    enough : lacks_days state.head state.marks consumer value ≡ false
    enough =
        let row = days_row state.head state.marks tag value in
        rw (of_tag tag consumer_tag t) at (untold row tt (sym (accepted state tag value places e).days ∙ e) 18)

    are_four : FourDays (test_day state.head) state.marks (add_of state tag value places).days
    are_four = rw its_days (chosen_are_four (test_day state.head) state.marks (readings_of consumer value) state.head.slot enough)

    by_its_days : results_of state tag value ≡ map rounded (consumer_quotients_on state.head value (add_of state tag value places).days)
    unfolding quotients
    by_its_days = rw (its_days, of_tag tag consumer_tag t)

pub adding_tells_days : AddingTellsDays
adding_tells_days state tag value places =
    let refusal = add_refusal state tag value (length places) in
    record {
      consumer = λ e t. let z = sym refusal ∙ e in (its_days state tag value (length places) z t, are_four state tag value (length places) z t);
      worked = λ e t. let z = sym refusal ∙ e in places_good state tag value places z ∙ by_its_days state tag value (length places) z t;
      other = λ n. other_none state tag value (length places) n (ℕ_discrete (adding_refusal state tag value (length places)) 0);
      refused = λ n. refused_none state tag value (length places) (λ z. n (refusal ∙ z));
    }
