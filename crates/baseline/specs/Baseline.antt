-- The chosen days of a consumer and its baseline (document 01, 'Slot results').
use Rattle.std.specs.Prelude.{List, [], ◌∷◌, ℕ, ◌+◌, ◌*◌, ◌-◌, get_or}
use Rattle.numbers.specs.Lists.{run, sum}
use Rattle.numbers.specs.Slots.{window_slots}
use Rattle.calendar.specs.Eligible.{of_day, eligible_days}
use Rattle.readings.specs.Readings.{window_sums, slot_sums, earlier_slot, earlier_use}
use Rattle.choosing.specs.Choosing.{chosen}

-- the four days of a consumer, for the count of the test day
abbrev pub chosen_days : ℕ → List ℕ → List ℕ → ℕ → List ℕ
chosen_days test marks readings s = chosen (of_day (window_sums readings s)) (eligible_days test marks)

-- 'six window sums and six earlier sums, each over the four chosen days'
unfoldable pub day_sums : List ℕ → List ℕ → ℕ → List (List ℕ)
day_sums readings days s = slot_sums readings days s ∷ slot_sums readings days (earlier_slot s) ∷ []

-- '6 × (the four-day sum of slot j) + 4 × (the test day's six earlier readings together) − (the six earlier four-day sums together)'
-- in twenty-fourths of a Wh, 'and 0 where that is negative'. `sums` are the window sums and the earlier sums.
abbrev pub baseline : List (List ℕ) → ℕ → ℕ → ℕ
baseline sums earlier j = 6 * get_or (get_or sums 0 []) j 0 + 4 * earlier - sum (get_or sums 1 [])

-- the baseline of window slot j on some days, which are all that it takes of the days back
abbrev pub baseline_on : List ℕ → List ℕ → ℕ → ℕ → ℕ
baseline_on readings days s j = baseline (day_sums readings days s) (earlier_use readings s) j

-- that of the six window slots
abbrev pub baselines_on : List ℕ → List ℕ → ℕ → List ℕ
baselines_on readings days s = run (baseline_on readings days s) 0 window_slots
