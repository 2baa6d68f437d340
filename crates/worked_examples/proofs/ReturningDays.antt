-- The examples of days that return hold, by computing. Assumes nothing.
use mathlib.Core.Path.{◌≡◌, refl}
use mathlib.Core.List.{[], ◌∷◌}
use Rattle.numbers.specs.Lists.{run, sum, filter, any, gather, same}
use Rattle.numbers.specs.Words.{bytes_of}
use Rattle.numbers.specs.PointNumbers.{digits, is_number, below}
use Rattle.calendar.specs.Dates.{is_date, day_count}
use Rattle.readings.specs.Readings.{first_large, window_sums, slot_sums, earlier_use}
use Rattle.baseline.specs.Baseline.{day_sums}
use Rattle.choosing.specs.Choosing.{walk, drops, with_day, picked, returned, used, chosen}
use Rattle.heads.specs.Heads.{head_of, content_refusal, opening_refusal}
use Rattle.results.specs.SlotResults.{quotients}
use Rattle.ledger.specs.States.{is_unsound}
use Rattle.ledger.specs.Operations.{open_of, adding_refusal, add_of}
use Rattle.worked_examples.specs.Examples.{plain}
use Rattle.worked_examples.specs.ReturningDays.{ReturningExamples, returning_examples, consumer_of, days_with, marked_from}

six_eligible : plain (days_with (marked_from 9)) ≡ plain (0 ∷ 1 ∷ 2 ∷ 5 ∷ 8 ∷ [])
unfolding run sum filter any gather bytes_of digits same is_number below is_date day_count first_large window_sums slot_sums day_sums earlier_use walk drops with_day picked returned used chosen head_of content_refusal opening_refusal quotients is_unsound open_of adding_refusal add_of consumer_of days_with
six_eligible = refl

four_eligible : plain (days_with (marked_from 7)) ≡ plain (0 ∷ 1 ∷ 2 ∷ 5 ∷ 6 ∷ [])
unfolding run sum filter any gather bytes_of digits same is_number below is_date day_count first_large window_sums slot_sums day_sums earlier_use walk drops with_day picked returned used chosen head_of content_refusal opening_refusal quotients is_unsound open_of adding_refusal add_of consumer_of days_with
four_eligible = refl

three_eligible : plain (days_with (marked_from 6)) ≡ plain (18 ∷ 0 ∷ 0 ∷ 0 ∷ 0 ∷ [])
unfolding run sum filter any gather bytes_of digits same is_number below is_date day_count first_large window_sums slot_sums day_sums earlier_use walk drops with_day picked returned used chosen head_of content_refusal opening_refusal quotients is_unsound open_of adding_refusal add_of consumer_of days_with
three_eligible = refl

pub returning_examples_lem : ReturningExamples
unfolding returning_examples run sum filter any walk drops with_day picked returned used chosen
returning_examples_lem =
    (refl, (refl, (refl, (refl, (refl, (refl, (refl, (refl, (refl, (refl, (refl, (six_eligible, (four_eligible, (three_eligible, tt))))))))))))))
