-- A consumer whose value passed its tests, and its results by the answers of the day choice and of the baseline. Assumes nothing.
use mathlib.Core.Path.{◌≡◌, sym, ap, ◌∙◌}
use mathlib.Core.Bool.{true, false}
use mathlib.Core.List.{List}
use Prim.Native.Nat.{ℕ, ◌+◌, ◌-◌, ◌≤◌}
use native.Mathlib.Omega.{arith}
use lib.ListN.{length, get_or, take, drop, length-drop}
use borrow.Author.Tests.{not-false, le-ltb}
use Rattle.std.specs.Prelude.{Some, None}
use Rattle.numbers.specs.Lists.{run}
use Rattle.numbers.specs.Slots.{days_used}
use Rattle.numbers.proofs.Parts.{rest_of}
use Rattle.numbers.proofs.Refusals.{untold}
use Rattle.calendar.specs.Dates.{is_date}
use Rattle.readings.specs.Readings.{reading}
use Rattle.choosing.specs.Choosing.{is_few}
use Rattle.choosing.specs.Days.{AtMost}
use Rattle.baseline.specs.Baseline.{chosen_days, baselines_on}
use Rattle.baseline.specs.Consumers.{Tested, most_consumer_baseline}
use Rattle.baseline.proofs.Bounds.{baselines_bound}
use Rattle.heads.specs.Limits.{most_loss}
use Rattle.heads.specs.Heads.{test_day, counts, content_tests, content_refusal}
use Rattle.heads.specs.declared.Head.{Head}
use Rattle.heads.proofs.Opening.{opens}
use Rattle.points.specs.Points.{consumer, consumer_readings_at}
use Rattle.results.specs.SlotResults.{loss_of, days_of, consumer_quotient, quotients, rounded, results}
use Rattle.results.specs.Steps.{Passed, consumer_slot, found_of}
use Rattle.results.proofs.SlotResults.{map_run}
use Rattle.points.proofs.TooLarge.{all_tested}

module _ {h : Head} {marks v : List ℕ} (p : Passed h marks consumer v) where
  pub dated : is_date h.year h.month h.day ≡ true
  unfolding content_refusal
  dated = not-false _ (untold (content_tests counts h marks) tt p.content 2)

  pub lossy : loss_of h v ≤ most_loss
  lossy = (opens h marks p.content).losses _

  pub tested : Tested (drop consumer_readings_at v) h.slot
  tested =
      let o = opens h marks p.content in
      record {
        window = record { size = simp length-drop (omega (arith, p.size)); last = omega (arith, o.last_slot) };
        small = all_tested consumer v p.small;
        first = omega (arith, o.first_slot);
      }

  -- the readings, as they are handed on
  abbrev pub handed : List ℕ
  handed = take (length v - consumer_readings_at) (drop consumer_readings_at v)

  -- by the days that are chosen for the count of the test day
  module _ {test : ℕ} (t : test ≡ test_day h) where
    are_days : chosen_days test marks handed h.slot ≡ days_of h marks v
    are_days = rw (t, rest_of v consumer_readings_at)

    pub too_few : is_few (chosen_days test marks handed h.slot) ≡ true → found_of h marks consumer v ≡ None
    unfolding found_of
    too_few few = rw (rw are_days at few)

    -- and by the baseline on four of them
    module _ {four : List ℕ} (size : length four ≡ days_used) (chosen : four ≡ chosen_days test marks handed h.slot)
        {slots : List ℕ} (b : slots ≡ baselines_on handed four h.slot) where
      four_are : four ≡ days_of h marks v
      four_are = chosen ∙ are_days

      enough : is_few (days_of h marks v) ≡ false
      enough = le-ltb _ _ (omega (arith, ap (length {A = ℕ}) four_are))

      on_days : slots ≡ baselines_on (drop consumer_readings_at v) (days_of h marks v) h.slot
      on_days = b ∙ rw (rest_of v consumer_readings_at, four_are)

      pub baselines_small : AtMost most_consumer_baseline slots
      baselines_small =
          rw on_days (baselines_bound (test_day h) marks (drop consumer_readings_at v) h.slot tested.small tested.window.last)

      -- slot by slot, from these baselines
      by_slots : results h marks consumer v ≡ run (consumer_slot (loss_of h v) slots (drop consumer_readings_at v) h.slot) 0 6
      unfolding quotients
      by_slots =
          let readings = drop consumer_readings_at v in
          let bases = baselines_on readings (days_of h marks v) h.slot in
          map_run rounded (λ j. consumer_quotient (loss_of h v) (get_or bases j 0) (reading readings 0 (h.slot + j))) 0 6
          ∙ ap (λ bases. run (consumer_slot (loss_of h v) bases readings h.slot) 0 6) (sym on_days)

      pub consumer_results : found_of h marks consumer v
          ≡ Some (record { found = run (consumer_slot (loss_of h v) slots (drop consumer_readings_at v) h.slot) 0 6; days = four })
      unfolding found_of
      consumer_results = rw (enough, by_slots, four_are)
