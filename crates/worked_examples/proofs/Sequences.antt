-- The worked sequences hold, by computing. Assumes nothing.
use mathlib.Core.Path.{refl}
use Rattle.numbers.specs.Lists.{run, sum, filter, any, gather, same}
use Rattle.integers.specs.Integers.{sum_ℤ}
use Rattle.numbers.specs.Words.{bytes_of}
use Rattle.numbers.specs.PointNumbers.{digits, is_number, below}
use Rattle.calendar.specs.Dates.{is_date, day_count}
use Rattle.readings.specs.Readings.{first_large, window_sums, slot_sums, earlier_use}
use Rattle.baseline.specs.Baseline.{day_sums}
use Rattle.choosing.specs.Choosing.{walk, picked, returned, used, chosen}
use Rattle.heads.specs.Heads.{head_of, content_refusal, opening_refusal}
use Rattle.results.specs.SlotResults.{quotients}
use Rattle.figures.specs.SlotTotals.{plus}
use Rattle.ledger.specs.States.{is_unsound, taken}
use Rattle.figures.specs.Figures.{figures_of}
use Rattle.ledger.specs.Operations.{open_of, point_refusal, adding_refusal, add_of, places_of, closing_refusal, close_of}
use Rattle.account.specs.Account.{opening, says_of, account}
use Rattle.calls.specs.Calls.{replies, program}
use Rattle.worked_examples.specs.Examples.{high_voltage}
use Rattle.worked_examples.specs.Sequences.{WorkedSequences}

pub worked_sequences : WorkedSequences
unfolding run sum filter any gather sum_ℤ bytes_of digits same is_number below is_date day_count first_large window_sums slot_sums day_sums earlier_use walk picked returned used chosen head_of content_refusal opening_refusal quotients is_unsound plus taken figures_of open_of point_refusal adding_refusal add_of places_of closing_refusal close_of replies program opening says_of account high_voltage
worked_sequences = ((refl, refl), ((refl, refl), refl), (refl, refl), refl, (refl, refl, refl))
