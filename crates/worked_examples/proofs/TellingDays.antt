-- The examples of the days hold, by computing. Assumes nothing.
use mathlib.Core.Path.{◌≡◌, refl}
use mathlib.Core.List.{[], ◌∷◌}
use lib.ListN.{replicate}
use Rattle.numbers.specs.Lists.{run, sum, filter, any, gather, same}
use Rattle.numbers.specs.Words.{bytes_of}
use Rattle.numbers.specs.PointNumbers.{digits, is_number, below}
use Rattle.calendar.specs.Dates.{is_date, day_count}
use Rattle.readings.specs.Readings.{first_large, window_sums, slot_sums, earlier_use}
use Rattle.baseline.specs.Baseline.{day_sums}
use Rattle.choosing.specs.Choosing.{walk, picked, returned, used, chosen}
use Rattle.heads.specs.Heads.{head_of, content_refusal, opening_refusal}
use Rattle.results.specs.SlotResults.{quotients}
use Rattle.ledger.specs.States.{is_unsound}
use Rattle.ledger.specs.Operations.{open_of, adding_refusal, add_of}
use Rattle.worked_examples.specs.Examples.{plain, high_voltage}
use Rattle.worked_examples.specs.Sequences.{generator_of, mixed_firing_of, outside_tariff, inside_tariff}
use Rattle.worked_examples.specs.TellingDays.{DayExamples, day_examples, consumer_days, two_marks, unsound_days, other_days}

no_marks : plain (consumer_days (replicate 30 0) 6) ≡ plain (0 ∷ 1 ∷ 2 ∷ 5 ∷ 6 ∷ [])
unfolding run sum filter any gather bytes_of digits same is_number below is_date day_count first_large window_sums slot_sums day_sums earlier_use walk picked returned used chosen head_of content_refusal opening_refusal quotients is_unsound open_of adding_refusal add_of high_voltage consumer_days
no_marks = refl

marks_between : plain (consumer_days two_marks 6) ≡ plain (0 ∷ 2 ∷ 5 ∷ 7 ∷ 8 ∷ [])
unfolding run sum filter any gather bytes_of digits same is_number below is_date day_count first_large window_sums slot_sums day_sums earlier_use walk picked returned used chosen head_of content_refusal opening_refusal quotients is_unsound open_of adding_refusal add_of high_voltage consumer_days
marks_between = refl

all_marked_lem : plain (consumer_days (replicate 30 1) 6) ≡ plain (18 ∷ 0 ∷ 0 ∷ 0 ∷ 0 ∷ [])
unfolding run sum filter any gather bytes_of digits same is_number below is_date day_count first_large window_sums slot_sums day_sums earlier_use walk picked returned used chosen head_of content_refusal opening_refusal quotients is_unsound open_of adding_refusal add_of high_voltage consumer_days
all_marked_lem = refl

five_places : plain (consumer_days (replicate 30 0) 5) ≡ plain (13 ∷ 0 ∷ 0 ∷ 0 ∷ 0 ∷ [])
unfolding run sum filter any gather bytes_of digits same is_number below is_date day_count first_large window_sums slot_sums day_sums earlier_use walk picked returned used chosen head_of content_refusal opening_refusal quotients is_unsound open_of adding_refusal add_of high_voltage consumer_days
five_places = refl

unsound : plain unsound_days ≡ plain (9 ∷ 0 ∷ 0 ∷ 0 ∷ 0 ∷ [])
unfolding run sum filter any gather bytes_of digits same is_number below is_date day_count first_large window_sums slot_sums day_sums earlier_use walk picked returned used chosen head_of content_refusal opening_refusal quotients is_unsound open_of adding_refusal add_of high_voltage unsound_days
unsound = refl

a_generator : plain (other_days 4 (generator_of 49 0 (replicate 6 1_200))) ≡ plain (0 ∷ 0 ∷ 0 ∷ 0 ∷ 0 ∷ [])
unfolding run sum filter any gather bytes_of digits same is_number below is_date day_count first_large head_of content_refusal opening_refusal quotients is_unsound open_of adding_refusal add_of other_days
a_generator = refl

a_plant : plain (other_days 5 (mixed_firing_of 49 333 outside_tariff inside_tariff)) ≡ plain (0 ∷ 0 ∷ 0 ∷ 0 ∷ 0 ∷ [])
unfolding run sum filter any gather bytes_of digits same is_number below is_date day_count first_large head_of content_refusal opening_refusal quotients is_unsound open_of adding_refusal add_of other_days
a_plant = refl

pub day_examples_lem : DayExamples
unfolding day_examples
day_examples_lem =
    (no_marks, (marks_between, (all_marked_lem, (five_places, (unsound, (a_generator, (a_plant, tt)))))))
