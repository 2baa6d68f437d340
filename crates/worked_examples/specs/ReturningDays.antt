-- Days that return (CR 5), worked out by hand from document 01's rules and the change request, which gives no figures.
use Rattle.std.specs.Prelude.{List, [], ◌∷◌, ◌++◌, ℕ, ◌-◌, replicate}
use Rattle.numbers.specs.Lists.{gather}
use Rattle.numbers.specs.Words.{bytes_of}
use Rattle.ledger.specs.Operations.{add_of}
use Rattle.worked_examples.specs.Examples.{Example, plain, chosen_of, state_with, Hold}
use Rattle.worked_examples.specs.TellingDays.{refusal_and_days}

-- a consumer of high voltage with the same reading in each slot of a day: 1,200 on the test day, then those of days 1 to 30 back
unfoldable pub consumer_of : List ℕ → List ℕ
consumer_of levels = replicate 22 49 ++ 2 ∷ gather (bytes_of 4) (replicate 48 1_200 ++ gather (replicate 48) levels)

-- Of 2024-08-07 days 1, 2, 5, 6, 7 and 8 back are weekdays, 3 and 4 a weekend. From a day on each has a mark.
abbrev pub marked_from : ℕ → List ℕ
marked_from k = replicate (k - 1) 0 ++ replicate (31 - k) 1

-- high on each day that is not eligible
abbrev pub six_levels : List ℕ
six_levels = 400 ∷ 400 ∷ 9_000 ∷ 9_000 ∷ 20 ∷ 20 ∷ 20 ∷ 1 ∷ replicate 22 9_000

-- the refusal and the days of adding it under some marks
unfoldable pub days_with : List ℕ → List ℕ
days_with marks = refusal_and_days (add_of (state_with marks) 3 (consumer_of six_levels) 6)

unfoldable pub returning_examples : List Example
returning_examples =
    -- a round drops 3, 4 and 5 (20 × 20 is below 860); 6 was in no round, and stands; of equals the nearest returns
    record { given = plain (chosen_of (400 ∷ 400 ∷ 20 ∷ 20 ∷ 20 ∷ 1 ∷ [])); told = plain (1 ∷ 2 ∷ 3 ∷ 6 ∷ []) }
    -- one stands: three of four return, the highest and then the nearer of equals, and are told nearest first
    ∷ record { given = plain (chosen_of (4_000 ∷ 2 ∷ 2 ∷ 2 ∷ 3 ∷ [])); told = plain (1 ∷ 2 ∷ 3 ∷ 5 ∷ []) }
    -- two stand, 1 and 6, which was in no round: 5 and 3 return
    ∷ record { given = plain (chosen_of (5_000 ∷ 9 ∷ 11 ∷ 10 ∷ 12 ∷ 1 ∷ [])); told = plain (1 ∷ 3 ∷ 5 ∷ 6 ∷ []) }
    -- the first round drops 2 to 5, the last 6 and 8: of days 2 and 8 first 2 is higher, then 8, then they are equal and the nearer returns
    ∷ record { given = plain (chosen_of (1_000 ∷ 49 ∷ 10 ∷ 20 ∷ 10 ∷ 40 ∷ 1_000 ∷ 45 ∷ 1_000 ∷ [])); told = plain (1 ∷ 2 ∷ 7 ∷ 9 ∷ []) }
    ∷ record { given = plain (chosen_of (1_000 ∷ 44 ∷ 10 ∷ 20 ∷ 10 ∷ 40 ∷ 1_000 ∷ 45 ∷ 1_000 ∷ [])); told = plain (1 ∷ 7 ∷ 8 ∷ 9 ∷ []) }
    ∷ record { given = plain (chosen_of (1_000 ∷ 45 ∷ 10 ∷ 20 ∷ 10 ∷ 40 ∷ 1_000 ∷ 45 ∷ 1_000 ∷ [])); told = plain (1 ∷ 2 ∷ 7 ∷ 9 ∷ []) }
    -- four stand, one of them lower than those dropped: no day is replaced
    ∷ record { given = plain (chosen_of (1_000 ∷ 1_000 ∷ 1_000 ∷ 20 ∷ 20 ∷ 1 ∷ [])); told = plain (1 ∷ 2 ∷ 3 ∷ 6 ∷ []) }
    -- exactly four eligible days, and no round; fewer, which 18 turns away
    ∷ record { given = plain (chosen_of (0 ∷ 900 ∷ 0 ∷ 1 ∷ [])); told = plain (1 ∷ 2 ∷ 3 ∷ 4 ∷ []) }
    ∷ record { given = plain (chosen_of (0 ∷ 900 ∷ 0 ∷ [])); told = plain (1 ∷ 2 ∷ 3 ∷ []) }
    -- all sums 0: no day is dropped; all but one: three of 0 return. No round drops the highest of its five, so that one stands at least.
    ∷ record { given = plain (chosen_of (0 ∷ 0 ∷ 0 ∷ 0 ∷ 0 ∷ 0 ∷ [])); told = plain (1 ∷ 2 ∷ 3 ∷ 4 ∷ []) }
    ∷ record { given = plain (chosen_of (100 ∷ 0 ∷ 0 ∷ 0 ∷ 0 ∷ [])); told = plain (1 ∷ 2 ∷ 3 ∷ 4 ∷ []) }
    -- by adding: the first example over the six eligible days; with exactly four; with three
    ∷ record { given = plain (days_with (marked_from 9)); told = plain (0 ∷ 1 ∷ 2 ∷ 5 ∷ 8 ∷ []) }
    ∷ record { given = plain (days_with (marked_from 7)); told = plain (0 ∷ 1 ∷ 2 ∷ 5 ∷ 6 ∷ []) }
    ∷ record { given = plain (days_with (marked_from 6)); told = plain (18 ∷ 0 ∷ 0 ∷ 0 ∷ 0 ∷ []) }
    ∷ []

abbrev pub ReturningExamples : Type 0
ReturningExamples = Hold returning_examples
