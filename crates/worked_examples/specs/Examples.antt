-- The starred examples of document 01, 'Checked examples', as one list: what the definitions give, and what the paper says.
use Rattle.std.specs.Prelude.{◌≡◌, cond, ◌&&◌, List, [], ◌∷◌, ◌++◌, map, ℕ, ◌%◌, leb, ℤ, pos, neg_ℤ, length, take, replicate}
use Rattle.numbers.specs.Lists.{run, gather}
use Rattle.numbers.specs.Words.{bytes_of}
use Rattle.calendar.specs.Dates.{day_count}
use Rattle.calendar.specs.Eligible.{of_day, eligible_days}
use Rattle.choosing.specs.Choosing.{standing, chosen}
use Rattle.baseline.specs.Baseline.{baselines_on}
use Rattle.heads.specs.Heads.{head_of}
use Rattle.points.specs.Points.{consumer, readings_of}
use Rattle.results.specs.SlotResults.{days_of}
use Rattle.figures.specs.Figures.{figures_of}
use Rattle.ledger.specs.Operations.{open_of, add_of, places_of}
use Rattle.figures.specs.declared.Figures.{Figures}
use Rattle.ledger.specs.declared.State.{State}

pub record Example : Type 0 where
  pub given : List ℤ
  pub told : List ℤ

-- numbers without a sign
abbrev pub plain : List ℕ → List ℤ
plain numbers = map pos numbers

-- the days that stand, and the four that are used, of days with these window sums, nearest first
abbrev pub standing_of : List ℕ → List ℕ
standing_of sums = standing (of_day sums) (run (λ k. k) 1 (length sums))

abbrev pub chosen_of : List ℕ → List ℕ
chosen_of sums = chosen (of_day sums) (run (λ k. k) 1 (length sums))

-- H's list: 2024-08-07, s 26, losses 700, 400, 200, contract 1,000, count 1
abbrev pub head : List ℕ
head = bytes_of 2 2024 ++ 8 ∷ 7 ∷ 26 ∷ bytes_of 2 700 ++ bytes_of 2 400 ++ bytes_of 2 200 ++ bytes_of 4 1_000 ++ bytes_of 2 1

abbrev pub state_with : List ℕ → State
state_with marks = (open_of head marks).state

-- the test day: `earlier` in slots 16 to 21, `used` in slots 26 to 31, 1,200 elsewhere
abbrev pub test_day_reading : ℕ → ℕ → ℕ → ℕ
test_day_reading earlier used i = cond (leb 26 i && leb i 31) used (cond (leb 16 i && leb i 21) earlier 1_200)

-- 'High voltage, loss 400, all history 1,200': the whole field of 5,975 bytes
unfoldable pub high_voltage : ℕ → ℕ → List ℕ
high_voltage earlier used =
    replicate 22 49 ++ 2 ∷ gather (bytes_of 4) (run (test_day_reading earlier used) 0 48 ++ replicate 1_440 1_200)

-- the six places after adding it
unfoldable pub places_with : ℕ → ℕ → List ℤ
places_with earlier used = places_of (state_with (replicate 30 0)) 3 (high_voltage earlier used) (replicate 6 (pos 0))

-- its six baselines
unfoldable pub baselines_with : ℕ → ℕ → List ℕ
baselines_with earlier used =
    let value = high_voltage earlier used in
    let readings = readings_of consumer value in
    let days = days_of (head_of head) (replicate 30 0) value in
    baselines_on readings days 26

-- the closing figures of a total
abbrev pub figures_with : ℤ → Figures
figures_with total = figures_of 1_000 (total ∷ replicate 5 (pos 0)) 1

-- the expected capacity and whether it may be bid: 1 or 0
abbrev pub expected_and_bid : Figures → List ℤ
expected_and_bid figures = pos figures.expected ∷ cond figures.bid (pos 1) (pos 0) ∷ []

-- six times the same
abbrev pub six : ℤ → List ℤ
six result = replicate 6 result

unfoldable pub examples : List Example
examples =
    -- A: 2024-01-31 is day 8796, a Wednesday
    record { given = plain (day_count 2024 1 31 ∷ day_count 2024 1 31 % 7 ∷ []); told = plain (8_796 ∷ 4 ∷ []) }
    -- B: 2024-08-07 with all marks 0: nearest five
    ∷ record { given = plain (take 5 (eligible_days (day_count 2024 8 7) (replicate 30 0))); told = plain (1 ∷ 2 ∷ 5 ∷ 6 ∷ 7 ∷ []) }
    -- C: thirty marks of 1
    ∷ record { given = plain ((add_of (state_with (replicate 30 1)) 3 (high_voltage 1_200 240) 6).refusal ∷ []); told = plain (18 ∷ []) }
    -- D: the third goes
    ∷ record { given = plain (chosen_of (100 ∷ 90 ∷ 90 ∷ 120 ∷ 130 ∷ [])); told = plain (1 ∷ 2 ∷ 4 ∷ 5 ∷ []) }
    -- E: the fifth is dropped and a sixth day sought
    ∷ record { given = plain (standing_of (100 ∷ 100 ∷ 100 ∷ 100 ∷ 21 ∷ 100 ∷ [])); told = plain (1 ∷ 2 ∷ 3 ∷ 4 ∷ 6 ∷ []) }
    -- F: it stays in that round
    ∷ record { given = plain (standing_of (100 ∷ 100 ∷ 100 ∷ 100 ∷ 22 ∷ 100 ∷ [])); told = plain (1 ∷ 2 ∷ 3 ∷ 4 ∷ 5 ∷ []) }
    -- G: drops none
    ∷ record { given = plain (standing_of (19 ∷ 19 ∷ 19 ∷ 19 ∷ 4 ∷ 19 ∷ [])); told = plain (1 ∷ 2 ∷ 3 ∷ 4 ∷ 5 ∷ []) }
    -- H, I, J: use 240, 241, 1,201
    ∷ record { given = places_with 1_200 240; told = six (pos 1_000) }
    ∷ record { given = places_with 1_200 241; told = six (pos 998) }
    ∷ record { given = places_with 1_200 1_201; told = six (neg_ℤ (pos 2)) }
    -- K: as H, but the test day's earlier readings all 0: baseline 0, result −250
    ∷ record { given = plain (baselines_with 0 240) ++ places_with 0 240; told = six (pos 0) ++ six (neg_ℤ (pos 250)) }
    -- L: total 2,999: settled 0; total −1: settled −1
    ∷ record { given = (figures_with (pos 2_999)).settled ∷ (figures_with (neg_ℤ (pos 1))).settled ∷ []; told = pos 0 ∷ neg_ℤ (pos 1) ∷ [] }
    -- L: expected 999: bid no; 1,000: yes
    ∷ record { given = expected_and_bid (figures_with (pos 2_997_000)); told = pos 999 ∷ pos 0 ∷ [] }
    ∷ record { given = expected_and_bid (figures_with (pos 3_000_000)); told = pos 1_000 ∷ pos 1 ∷ [] }
    ∷ []

-- what is given is what is told, in each of some examples
abbrev pub Hold : List Example → Type 0
Hold [] = Unit {0}
Hold (e ∷ es) = (e.given ≡ e.told) × Hold es

-- THE STARRED EXAMPLES
abbrev pub StarredExamples : Type 0
StarredExamples = Hold examples
