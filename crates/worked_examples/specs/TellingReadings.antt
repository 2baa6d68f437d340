-- The reading that adding tells (CR 3), of H's list: the index is the place at which the large reading stands in the list below.
use Rattle.std.specs.Prelude.{List, [], ◌∷◌, ◌++◌, ℕ, replicate}
use Rattle.numbers.specs.Lists.{gather}
use Rattle.numbers.specs.Words.{bytes_of}
use Rattle.ledger.specs.Operations.{add_of}
use Rattle.ledger.specs.Operations.{Added}
use Rattle.worked_examples.specs.Examples.{Example, plain, state_with, Hold}
use Rattle.worked_examples.specs.Sequences.{generator_of, mixed_firing_of, outside_tariff, inside_tariff, last_too_large}

-- the refusal and the index
abbrev pub refusal_and_index : Added → List ℕ
refusal_and_index answer = answer.refusal ∷ answer.index ∷ []

-- the greatest reading that is allowed, so many times, and the least that is not
abbrev pub allowed : ℕ → List ℕ
allowed count = replicate count 1_000_000_000

abbrev pub large : ℕ
large = 1_000_000_001

-- of adding a consumer under thirty marks: its class and its 1,488 readings
unfoldable pub consumer_index : ℕ → ℕ → List ℕ → List ℕ
consumer_index mark class readings =
    refusal_and_index (add_of (state_with (replicate 30 mark)) 3 (replicate 22 49 ++ class ∷ gather (bytes_of 4) readings) 6)

-- of adding a point of another kind
unfoldable pub other_index : ℕ → List ℕ → List ℕ
other_index tag value = refusal_and_index (add_of (state_with (replicate 30 0)) tag value 6)

unfoldable pub reading_examples : List Example
reading_examples =
    -- the test day: its first reading and its last one
    record { given = plain (consumer_index 0 2 (large ∷ allowed 1_487)); told = plain (51 ∷ 0 ∷ []) }
    ∷ record { given = plain (consumer_index 0 2 (allowed 47 ++ large ∷ allowed 1_440)); told = plain (51 ∷ 47 ∷ []) }
    -- the days back: the first reading and the last one
    ∷ record { given = plain (consumer_index 0 2 (allowed 48 ++ large ∷ allowed 1_439)); told = plain (52 ∷ 48 ∷ []) }
    ∷ record { given = plain (consumer_index 0 2 (allowed 1_487 ++ large ∷ [])); told = plain (52 ∷ 1_487 ∷ []) }
    -- both cases at once: the lower index
    ∷ record { given = plain (consumer_index 0 2 (allowed 47 ++ large ∷ large ∷ allowed 1_439)); told = plain (51 ∷ 47 ∷ []) }
    -- with no eligible day: told before 18
    ∷ record { given = plain (consumer_index 1 2 (allowed 48 ++ large ∷ allowed 1_439)); told = plain (52 ∷ 48 ∷ []) }
    -- a class of 4 is told before, and no index with it
    ∷ record { given = plain (consumer_index 0 4 (allowed 48 ++ large ∷ allowed 1_439)); told = plain (16 ∷ 0 ∷ []) }
    -- the last of a generator's six, the last of a plant's twelve
    ∷ record { given = plain (other_index 4 (generator_of 49 0 (allowed 5 ++ large ∷ []))); told = plain (51 ∷ 5 ∷ []) }
    ∷ record { given = plain (other_index 5 (mixed_firing_of 49 333 outside_tariff last_too_large)); told = plain (51 ∷ 11 ∷ []) }
    -- a share above 1,000 is told before
    ∷ record { given = plain (other_index 5 (mixed_firing_of 49 1_001 outside_tariff last_too_large)); told = plain (50 ∷ 0 ∷ []) }
    -- a plant that is taken
    ∷ record { given = plain (other_index 5 (mixed_firing_of 49 333 outside_tariff inside_tariff)); told = plain (0 ∷ 0 ∷ []) }
    ∷ []

abbrev pub ReadingExamples : Type 0
ReadingExamples = Hold reading_examples
