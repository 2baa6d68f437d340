-- Days that adding tells (CR 2), of H's list: worked out by hand from document 01's rules, since CR 2 gives no figures.
use Rattle.std.specs.Prelude.{List, [], ◌∷◌, ◌++◌, ℕ, replicate}
use Rattle.ledger.specs.States.{no_state}
use Rattle.ledger.specs.Operations.{add_of}
use Rattle.ledger.specs.Operations.{Added}
use Rattle.worked_examples.specs.Examples.{Example, plain, state_with, high_voltage, Hold}
use Rattle.worked_examples.specs.Sequences.{generator_of, mixed_firing_of, outside_tariff, inside_tariff}

-- the refusal and the days
abbrev pub refusal_and_days : Added → List ℕ
refusal_and_days answer = answer.refusal ∷ answer.days

-- of adding H's consumer under some marks, with so many places
unfoldable pub consumer_days : List ℕ → ℕ → List ℕ
consumer_days marks places = refusal_and_days (add_of (state_with marks) 3 (high_voltage 1_200 240) places)

-- the same to a state of zeros
unfoldable pub unsound_days : List ℕ
unsound_days = refusal_and_days (add_of no_state 3 (high_voltage 1_200 240) 6)

-- of adding a point of another kind
unfoldable pub other_days : ℕ → List ℕ → List ℕ
other_days tag value = refusal_and_days (add_of (state_with (replicate 30 0)) tag value 6)

-- a mark on days 1 and 6
abbrev pub two_marks : List ℕ
two_marks = 1 ∷ replicate 4 0 ++ 2 ∷ replicate 24 0

unfoldable pub day_examples : List Example
day_examples =
    -- the nearest five are 1, 2, 5, 6, 7 (B); all sums are equal, and the farthest goes
    record { given = plain (consumer_days (replicate 30 0) 6); told = plain (0 ∷ 1 ∷ 2 ∷ 5 ∷ 6 ∷ []) }
    -- marks between: the nearest five are 2, 5, 7, 8, 9
    ∷ record { given = plain (consumer_days two_marks 6); told = plain (0 ∷ 2 ∷ 5 ∷ 7 ∷ 8 ∷ []) }
    -- C: no eligible day
    ∷ record { given = plain (consumer_days (replicate 30 1) 6); told = plain (18 ∷ 0 ∷ 0 ∷ 0 ∷ 0 ∷ []) }
    -- five places: refused, though it has its days
    ∷ record { given = plain (consumer_days (replicate 30 0) 5); told = plain (13 ∷ 0 ∷ 0 ∷ 0 ∷ 0 ∷ []) }
    -- refused by 9
    ∷ record { given = plain unsound_days; told = plain (9 ∷ 0 ∷ 0 ∷ 0 ∷ 0 ∷ []) }
    -- a generator, a mixed-firing plant
    ∷ record { given = plain (other_days 4 (generator_of 49 0 (replicate 6 1_200))); told = plain (0 ∷ 0 ∷ 0 ∷ 0 ∷ 0 ∷ []) }
    ∷ record { given = plain (other_days 5 (mixed_firing_of 49 333 outside_tariff inside_tariff)); told = plain (0 ∷ 0 ∷ 0 ∷ 0 ∷ 0 ∷ []) }
    ∷ []

abbrev pub DayExamples : Type 0
DayExamples = Hold day_examples
