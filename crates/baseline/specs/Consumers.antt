-- What the contracts require of a consumer's readings and sums.
use Rattle.std.specs.Prelude.{◌≡◌, List, [], ℕ, ◌+◌, ◌*◌, ◌≤◌, get_or}
use Rattle.numbers.specs.Slots.{days_used, window_slots}
use Rattle.readings.specs.Readings.{most_reading, reading_count, first_large, earlier_by, HasWindow}
use Rattle.choosing.specs.Days.{AtMost}

-- a consumer's readings, none above the limit, and the first slot of a window
pub record Tested (readings : List ℕ) (slot : ℕ) : Type 0 where
  pub window : HasWindow readings slot
  pub small : first_large readings reading_count ≡ reading_count
  pub first : earlier_by ≤ slot

-- six window sums and six earlier sums, each of four readings
pub record Sums (sums : List (List ℕ)) : Type 0 where
  pub window : AtMost (days_used * most_reading) (get_or sums 0 [])
  pub earlier : AtMost (days_used * most_reading) (get_or sums 1 [])

-- twenty-fourths of a Wh, of a consumer's baseline: six times a four-day sum and four times the earlier use
abbrev pub most_consumer_baseline : ℕ
most_consumer_baseline = (6 * days_used + 4 * window_slots) * most_reading
