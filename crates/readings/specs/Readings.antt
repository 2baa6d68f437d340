-- A consumer's readings (document 01, 'The test book' and 'Days'): 1,488 of four bytes, the test day's 48, then days 1 to 30 back.
use Rattle.std.specs.Prelude.{◌≡◌, cond, List, map, ℕ, zero, suc, ◌+◌, ◌*◌, ◌-◌, ◌/◌, ◌≤◌, ltb, length, drop, get_or, Option, Some, None}
use Rattle.numbers.specs.Lists.{run, sum}
use Rattle.numbers.specs.Slots.{slots_of_day, days_back, window_slots}
use Rattle.numbers.specs.Words.{word32}

-- 'readings of 4 bytes'
abbrev pub reading_length : ℕ
reading_length = 4

-- a consumer's readings: those of the test day and of the thirty days back, 1,488
abbrev pub reading_count : ℕ
reading_count = slots_of_day * (1 + days_back)

-- and their bytes, 5,952
abbrev pub readings_length : ℕ
readings_length = reading_count * reading_length

-- Wh
abbrev pub most_reading : ℕ
most_reading = 1_000_000_000

-- the place of the first of n readings that is above the limit, counted from 0, or n where none is
unfoldable pub first_large : List ℕ → ℕ → ℕ
first_large readings zero = 0
first_large readings (suc n) = cond (ltb most_reading (word32 readings 0)) 0 (suc (first_large (drop reading_length readings) n))

-- the same of all readings that some bytes hold, or none
abbrev pub large_place : List ℕ → Option ℕ
large_place readings =
    let n = length readings / reading_length in
    let place = first_large readings n in
    cond (ltb place n) (Some place) None

-- slot i, 0 to 47, of day k back; day 0 is the test day
abbrev pub reading : List ℕ → ℕ → ℕ → ℕ
reading readings k i = word32 readings ((slots_of_day * k + i) * reading_length)

-- The window is slots s to s + 5. 'A day's window sum is the sum of its six window readings.'
abbrev pub window_sum : List ℕ → ℕ → ℕ → ℕ
window_sum readings s k = sum (run (reading readings k) s window_slots)

-- the window sums of days 1 to 30 back
unfoldable pub window_sums : List ℕ → ℕ → List ℕ
window_sums readings s = run (window_sum readings s) 1 days_back

-- the last slot from which a window lies within the day
abbrev pub last_window : ℕ
last_window = slots_of_day - window_slots

-- The earlier slots are s − 10 to s − 5: 'from five hours to two hours before it'.
abbrev pub earlier_by : ℕ
earlier_by = 10

abbrev pub earlier_slot : ℕ → ℕ
earlier_slot s = s - earlier_by

-- a slot over some days, and the six slots from slot i on
abbrev pub slot_sum : List ℕ → List ℕ → ℕ → ℕ
slot_sum readings days slot = sum (map (λ k. reading readings k slot) days)

unfoldable pub slot_sums : List ℕ → List ℕ → ℕ → List ℕ
slot_sums readings days i = run (slot_sum readings days) i window_slots

-- 'the test day's six earlier readings together'
unfoldable pub earlier_use : List ℕ → ℕ → ℕ
earlier_use readings s = window_sum readings (earlier_slot s) 0

-- days of which none is farther than thirty; past the last day stands 0
abbrev pub Back : List ℕ → Type 0
Back days = (i : ℕ) → get_or days i 0 ≤ days_back

-- a consumer's readings, with the first slot of a window within the day
pub record HasWindow (readings : List ℕ) (slot : ℕ) : Type 0 where
  pub size : length readings ≡ readings_length
  pub last : slot ≤ last_window
