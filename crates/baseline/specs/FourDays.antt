-- THE FOUR DAYS of a consumer (CR 2: 'the four chosen days as numbers back, 1 to 30, nearest first'), and what the baseline takes of the
-- days back.
use Rattle.std.specs.Prelude.{◌≡◌, true, false, List, ℕ, ◌+◌, ◌<◌, ◌≤◌, length, get_or}
use Rattle.numbers.specs.Slots.{days_back, days_used, window_slots}
use Rattle.calendar.specs.Eligible.{of_day, is_eligible}
use Rattle.readings.specs.Readings.{reading, window_sum, window_sums, earlier_slot}
use Rattle.choosing.specs.Choosing.{is_few}
use Rattle.baseline.specs.Baseline.{chosen_days, baselines_on}

-- four different eligible days of the thirty, nearest first, for the count of the test day
pub record FourDays (test : ℕ) (marks days : List ℕ) : Type 0 where
  pub four : length days ≡ days_used
  pub rise : (i j : ℕ) → i < j → j < days_used → get_or days i 0 < get_or days j 0
  pub differ : (i j : ℕ) → i < j → j < days_used → get_or days i 0 ≡ get_or days j 0 → ⊥
  pub within : (i : ℕ) → i < days_used → (1 ≤ get_or days i 0) × (get_or days i 0 ≤ days_back)
  pub eligible : (i : ℕ) → i < days_used → is_eligible test marks (get_or days i 0) ≡ true

-- so are the days of every consumer that 18 does not turn away
abbrev pub ChosenAreFour : Type 0
ChosenAreFour = (test : ℕ) (marks readings : List ℕ) (s : ℕ)
    → is_few (chosen_days test marks readings s) ≡ false
    → FourDays test marks (chosen_days test marks readings s)

-- and the sum by which day k is chosen is that of its own six window readings
abbrev pub SumsOfDays : Type 0
SumsOfDays = (readings : List ℕ) (s k : ℕ) → 1 ≤ k → k ≤ days_back → of_day (window_sums readings s) k ≡ window_sum readings s k

-- readings that are the same in the test day's earlier slots and, on some days back, in the window and in the earlier slots
pub record SameOn (days : List ℕ) (s : ℕ) (readings others : List ℕ) : Type 0 where
  pub test : (j : ℕ) → j < window_slots → reading readings 0 (earlier_slot s + j) ≡ reading others 0 (earlier_slot s + j)
  pub window : (i j : ℕ) → i < length days → j < window_slots
      → reading readings (get_or days i 0) (s + j) ≡ reading others (get_or days i 0) (s + j)
  pub earlier : (i j : ℕ) → i < length days → j < window_slots
      → reading readings (get_or days i 0) (earlier_slot s + j) ≡ reading others (get_or days i 0) (earlier_slot s + j)

-- THE BASELINE ON THESE DAYS takes nothing else of the days back: whatever else differs, it is the same
abbrev pub OnTheseDays : Type 0
OnTheseDays = (days : List ℕ) (s : ℕ) (readings others : List ℕ)
    → SameOn days s readings others
    → baselines_on readings days s ≡ baselines_on others days s
