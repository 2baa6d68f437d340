-- How large sums are of readings none of which is too large. Assumes nothing.
use mathlib.Core.Path.{◌≡◌}
use mathlib.Core.List.{List}
use Prim.Native.Nat.{ℕ, ◌+◌, ◌*◌, ◌<◌, ◌≤◌}
use native.Mathlib.Omega.{arith}
use lib.ListN.{length, get_or}
use Rattle.numbers.specs.Slots.{slots_of_day, days_back, days_used, window_slots}
use Rattle.readings.specs.Readings.{most_reading, reading_count, first_large, reading, window_sum, window_sums, last_window, earlier_slot}
use Rattle.readings.specs.Readings.{slot_sum, slot_sums, earlier_use, Back}
use Rattle.readings.proofs.Sums.{run_within, sum_within, days_within}
use Rattle.readings.proofs.Large.{none_large}

-- what a window's six readings, and one slot over four days, come to at most
abbrev pub most_window_sum : ℕ
most_window_sum = window_slots * most_reading

abbrev pub most_slot_sum : ℕ
most_slot_sum = days_used * most_reading

module _ (readings : List ℕ) (fits : first_large readings reading_count ≡ reading_count) where
  pub reading_bound : (k i : ℕ) → k ≤ days_back → i < slots_of_day → reading readings k i ≤ most_reading
  reading_bound k i h l = none_large readings reading_count (slots_of_day * k + i) fits (omega arith)

  window_bound : (s k : ℕ) → s ≤ last_window → k ≤ days_back → window_sum readings s k ≤ most_window_sum
  window_bound s k h l = sum_within (reading readings k) most_reading s window_slots (λ j m. reading_bound k (s + j) l (omega arith))

  pub window_sums_bound : (s : ℕ) → s ≤ last_window → (k : ℕ) → get_or (window_sums readings s) k 0 ≤ most_window_sum
  unfolding window_sums
  window_sums_bound s h = run_within (window_sum readings s) most_window_sum 1 days_back (λ j m. window_bound s (1 + j) h (omega arith))

  pub earlier_use_bound : (s : ℕ) → s ≤ last_window → earlier_use readings s ≤ most_window_sum
  unfolding earlier_use
  earlier_use_bound s h = window_bound (earlier_slot s) 0 (omega arith) (omega arith)

  -- over at most four days
  module _ (days : List ℕ) (few : length days ≤ 4) (back : Back days) where
    slot_sum_bound : (slot : ℕ) → slot < slots_of_day → slot_sum readings days slot ≤ most_slot_sum
    slot_sum_bound slot h =
        omega (arith, days_within (λ k. reading readings k slot) most_reading days (λ i l. reading_bound (get_or days i 0) slot (back i) h))

    pub slot_sums_bound : (i : ℕ) → i ≤ last_window → (k : ℕ) → get_or (slot_sums readings days i) k 0 ≤ most_slot_sum
    unfolding slot_sums
    slot_sums_bound i h =
        run_within (slot_sum readings days) most_slot_sum i window_slots (λ j l. slot_sum_bound (i + j) (omega arith))
