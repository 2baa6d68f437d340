-- The examples of the reading that is told hold, by computing. Assumes nothing.
use mathlib.Core.Path.{◌≡◌, refl}
use mathlib.Core.List.{[], ◌∷◌, ◌++◌}
use Rattle.numbers.specs.Lists.{run, sum, filter, any, gather, same}
use Rattle.numbers.specs.Words.{bytes_of}
use Rattle.numbers.specs.PointNumbers.{digits, is_number, below}
use Rattle.calendar.specs.Dates.{is_date, day_count}
use Rattle.readings.specs.Readings.{first_large}
use Rattle.heads.specs.Heads.{head_of, content_refusal, opening_refusal}
use Rattle.results.specs.SlotResults.{quotients}
use Rattle.ledger.specs.States.{is_unsound}
use Rattle.ledger.specs.Operations.{open_of, adding_refusal, add_of}
use Rattle.worked_examples.specs.Examples.{plain}
use Rattle.worked_examples.specs.Sequences.{generator_of, mixed_firing_of, outside_tariff, inside_tariff, last_too_large}
use Rattle.worked_examples.specs.TellingReadings.{ReadingExamples, reading_examples, allowed, large, consumer_index, other_index}

first_of_test_day : plain (consumer_index 0 2 (large ∷ allowed 1_487)) ≡ plain (51 ∷ 0 ∷ [])
unfolding run sum filter any gather bytes_of digits same is_number below is_date day_count first_large head_of content_refusal opening_refusal quotients is_unsound open_of adding_refusal add_of consumer_index
first_of_test_day = refl

last_of_test_day : plain (consumer_index 0 2 (allowed 47 ++ large ∷ allowed 1_440)) ≡ plain (51 ∷ 47 ∷ [])
unfolding run sum filter any gather bytes_of digits same is_number below is_date day_count first_large head_of content_refusal opening_refusal quotients is_unsound open_of adding_refusal add_of consumer_index
last_of_test_day = refl

first_back : plain (consumer_index 0 2 (allowed 48 ++ large ∷ allowed 1_439)) ≡ plain (52 ∷ 48 ∷ [])
unfolding run sum filter any gather bytes_of digits same is_number below is_date day_count first_large head_of content_refusal opening_refusal quotients is_unsound open_of adding_refusal add_of consumer_index
first_back = refl

last_back : plain (consumer_index 0 2 (allowed 1_487 ++ large ∷ [])) ≡ plain (52 ∷ 1_487 ∷ [])
unfolding run sum filter any gather bytes_of digits same is_number below is_date day_count first_large head_of content_refusal opening_refusal quotients is_unsound open_of adding_refusal add_of consumer_index
last_back = refl

both : plain (consumer_index 0 2 (allowed 47 ++ large ∷ large ∷ allowed 1_439)) ≡ plain (51 ∷ 47 ∷ [])
unfolding run sum filter any gather bytes_of digits same is_number below is_date day_count first_large head_of content_refusal opening_refusal quotients is_unsound open_of adding_refusal add_of consumer_index
both = refl

no_days_lem : plain (consumer_index 1 2 (allowed 48 ++ large ∷ allowed 1_439)) ≡ plain (52 ∷ 48 ∷ [])
unfolding run sum filter any gather bytes_of digits same is_number below is_date day_count first_large head_of content_refusal opening_refusal quotients is_unsound open_of adding_refusal add_of consumer_index
no_days_lem = refl

class_first : plain (consumer_index 0 4 (allowed 48 ++ large ∷ allowed 1_439)) ≡ plain (16 ∷ 0 ∷ [])
unfolding run sum filter any gather bytes_of digits same is_number below is_date day_count first_large head_of content_refusal opening_refusal quotients is_unsound open_of adding_refusal add_of consumer_index
class_first = refl

last_of_six : plain (other_index 4 (generator_of 49 0 (allowed 5 ++ large ∷ []))) ≡ plain (51 ∷ 5 ∷ [])
unfolding run sum filter any gather bytes_of digits same is_number below is_date day_count first_large head_of content_refusal opening_refusal quotients is_unsound open_of adding_refusal add_of other_index
last_of_six = refl

last_of_twelve : plain (other_index 5 (mixed_firing_of 49 333 outside_tariff last_too_large)) ≡ plain (51 ∷ 11 ∷ [])
unfolding run sum filter any gather bytes_of digits same is_number below is_date day_count first_large head_of content_refusal opening_refusal quotients is_unsound open_of adding_refusal add_of other_index
last_of_twelve = refl

share_first : plain (other_index 5 (mixed_firing_of 49 1_001 outside_tariff last_too_large)) ≡ plain (50 ∷ 0 ∷ [])
unfolding run sum filter any gather bytes_of digits same is_number below is_date day_count first_large head_of content_refusal opening_refusal quotients is_unsound open_of adding_refusal add_of other_index
share_first = refl

taken : plain (other_index 5 (mixed_firing_of 49 333 outside_tariff inside_tariff)) ≡ plain (0 ∷ 0 ∷ [])
unfolding run sum filter any gather bytes_of digits same is_number below is_date day_count first_large head_of content_refusal opening_refusal quotients is_unsound open_of adding_refusal add_of other_index
taken = refl

pub reading_examples_lem : ReadingExamples
unfolding reading_examples
reading_examples_lem =
    (first_of_test_day, (last_of_test_day, (first_back, (last_back, (both, (no_days_lem, (class_first, (last_of_six, (last_of_twelve, (share_first, (taken, tt)))))))))))
