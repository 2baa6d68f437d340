-- THE READING THAT WRITING A POINT TELLS (CR 3).
use Rattle.std.specs.Prelude.{Bool, List, ◌++◌, ℕ, length}
use Rattle.points.specs.Points.{number_of, form_rows, number_row, unfit_row}
use Rattle.points.specs.TooLarge.{TellsReading}
use Rattle.writing.specs.Writing.{point_writing_answer}

-- 11, 12, 14, 16 or 50: what is told before the readings; 40 comes behind them
abbrev pub before_readings : ℕ → List ℕ → List (Bool × ℕ)
before_readings tag value = form_rows tag (length value) ++ number_row (number_of value) ++ unfit_row tag value

-- for every input
abbrev pub WritingTellsReading : Type 0
WritingTellsReading = (tag : ℕ) (value : List ℕ) (room : ℕ)
    → let answer = point_writing_answer tag value room in TellsReading (before_readings tag value) tag value answer.number answer.index
