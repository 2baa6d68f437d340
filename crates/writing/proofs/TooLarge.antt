-- Writing a point tells the first large reading. Assumes nothing.
use mathlib.Core.Path.{◌≡◌, refl}
use mathlib.Core.Bool.{Bool}
use mathlib.Core.List.{List, ◌++◌}
use Prim.Native.Nat.{ℕ, ◌+◌}
use lib.ListN.{length}
use Rattle.numbers.specs.Lists.{any}
use Rattle.points.specs.Points.{number_of, form_rows, number_row}
use Rattle.points.proofs.TooLarge.{not_seventeen, tells_reading}
use Rattle.fields.specs.Fields.{header_length}
use Rattle.writing.specs.Writing.{room_row, point_writing_refusal}
use Rattle.writing.specs.TooLarge.{WritingTellsReading}

module _ (tag : ℕ) (value : List ℕ) (room : ℕ) where
  abbrev before : List (Bool × ℕ)
  before = form_rows tag (length value) ++ number_row (number_of value)

  abbrev after : List (Bool × ℕ)
  after = room_row room (header_length + length value)

  pub writing_not_seventeen : point_writing_refusal tag value room ≡ 17 → ⊥
  unfolding point_writing_refusal any
  writing_not_seventeen = not_seventeen tag value before after tt tt tt refl

pub writing_tells_reading : WritingTellsReading
unfolding point_writing_refusal any
writing_tells_reading tag value room = tells_reading tag value (before tag value room) (after tag value room) tt tt tt refl refl
