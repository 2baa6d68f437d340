-- The examples hold, by computing. Assumes nothing.
use mathlib.Core.Path.{refl}
use Rattle.numbers.specs.Lists.{run, sum, filter, any, gather, same}
use Rattle.integers.specs.Integers.{sum_ℤ}
use Rattle.numbers.specs.Words.{bytes_of}
use Rattle.numbers.specs.PointNumbers.{digits, is_number, below}
use Rattle.calendar.specs.Dates.{is_date, day_count}
use Rattle.readings.specs.Readings.{first_large}
use Rattle.heads.specs.Heads.{head_of, content_refusal, opening_refusal}
use Rattle.results.specs.SlotResults.{quotients}
use Rattle.figures.specs.SlotTotals.{plus}
use Rattle.ledger.specs.States.{is_unsound, taken}
use Rattle.figures.specs.Figures.{figures_of}
use Rattle.ledger.specs.Operations.{open_of, adding_refusal, add_of, closing_refusal, close_of}
use Rattle.fields.specs.Fields.{field_refusal, field_of}
use Rattle.book.specs.Reading.{read_points, read_book}
use Rattle.lines.specs.Numerals.{digits_of}
use Rattle.figure_lines.specs.FigureLines.{slot_lines}
use Rattle.printing.specs.Printed.{text_of}
use Rattle.worked_examples.specs.ExampleM.{ExampleM, EmptyBook}

pub example_m : ExampleM
unfolding run sum filter any gather sum_ℤ bytes_of digits same is_number below is_date day_count first_large head_of content_refusal opening_refusal quotients is_unsound plus taken figures_of open_of adding_refusal add_of closing_refusal close_of field_refusal field_of read_points read_book digits_of slot_lines text_of
example_m = refl

pub empty_book : EmptyBook
unfolding field_refusal field_of read_book digits_of text_of
empty_book = refl
