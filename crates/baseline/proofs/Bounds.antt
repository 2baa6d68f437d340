-- How far back the chosen days are, and how large the sums over them and the baseline. Assumes nothing.
use mathlib.Core.Path.{◌≡◌, ap}
use mathlib.Core.List.{List, map-id}
use Prim.Native.Nat.{ℕ, ◌+◌, ◌*◌, ◌≤◌}
use native.Mathlib.Omega.{arith}
use lib.ListN.{length}
use Rattle.std.specs.List as list
use Rattle.numbers.specs.Lists.{sum}
use Rattle.numbers.specs.Slots.{days_back, days_used, window_slots}
use Rattle.numbers.proofs.Chains.{sum_is}
use Rattle.calendar.specs.Eligible.{of_day, is_eligible, eligible_days}
use Rattle.readings.specs.Readings.{reading_count, first_large, window_sums, last_window, earlier_slot, Back}
use Rattle.readings.proofs.Sums.{run_within, days_within}
use Rattle.readings.proofs.Bounds.{slot_sums_bound, earlier_use_bound}
use Rattle.baseline.specs.Baseline.{chosen_days, day_sums, baseline_on, baselines_on}
use Rattle.choosing.specs.Days.{AtMost, Rising}
use Rattle.baseline.specs.Consumers.{Sums, most_consumer_baseline}
use Rattle.choosing.proofs.SomeOf.{Few}
use Rattle.choosing.proofs.Rising.{some_rising, rising_far}
use Rattle.choosing.proofs.Flags.{tested_rising}
use Rattle.choosing.proofs.Lowest.{chosen_few}

-- numbers together, none of which is above a limit
pub sum_bound : (b : ℕ) (xs : List ℕ) → AtMost b xs → list.sum xs ≤ b * length xs
sum_bound b xs most = omega (arith, sum_is xs, ap sum (map-id xs), days_within (λ x. x) b xs (λ i l. most i))

-- sums over at most four days, of which none is farther than thirty
pub day_sums_bound : (readings : List ℕ) → first_large readings reading_count ≡ reading_count → (days : List ℕ) → length days ≤ days_used → Back days
    → (s : ℕ) → s ≤ last_window → Sums (day_sums readings days s)
unfolding day_sums
day_sums_bound readings fits days few back s h =
    let within = slot_sums_bound readings fits days few back in
    record { window = within s h; earlier = within (earlier_slot s) (omega arith) }

eligible_rising : (test : ℕ) (marks : List ℕ) → Rising 0 days_back (eligible_days test marks)
eligible_rising test marks = tested_rising (is_eligible test marks) days_back

module _ (test : ℕ) (marks readings : List ℕ) (s : ℕ) where
  -- at most four of the eligible days
  pub chosen_days_few : Few days_used (chosen_days test marks readings s) (eligible_days test marks)
  chosen_days_few = chosen_few (of_day (window_sums readings s)) (eligible_rising test marks)

  pub chosen_days_rising : Rising 0 days_back (chosen_days test marks readings s)
  chosen_days_rising = some_rising chosen_days_few.1 (eligible_rising test marks)

  pub chosen_days_back : Back (chosen_days test marks readings s)
  chosen_days_back i = rising_far i chosen_days_rising

  baseline_bound : first_large readings reading_count ≡ reading_count → s ≤ last_window
      → (j : ℕ) → baseline_on readings (chosen_days test marks readings s) s j ≤ most_consumer_baseline
  baseline_bound fits h j =
      let sums = day_sums_bound readings fits (chosen_days test marks readings s) chosen_days_few.0 chosen_days_back s h in
      omega (arith, sums.window j, earlier_use_bound readings fits s h)

  pub baselines_bound : first_large readings reading_count ≡ reading_count → s ≤ last_window
      → AtMost most_consumer_baseline (baselines_on readings (chosen_days test marks readings s) s)
  baselines_bound fits h =
      run_within (baseline_on readings (chosen_days test marks readings s) s) most_consumer_baseline 0 window_slots (λ j l. baseline_bound fits h (0 + j))
