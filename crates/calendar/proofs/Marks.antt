-- The numbers of the marks are those of which a mark may have one. Assumes nothing.
use mathlib.Core.Path.{◌≡◌, refl}
use mathlib.Core.Bool.{true}
use Rattle.calendar.specs.Eligible.{is_mark, code_of}
use Rattle.calendar.specs.declared.Mark.{Mark}
use Rattle.calendar.specs.declared.Mark.TheVariants.{Unmarked, NationalHoliday, EarlierDispatch, EconomicDispatch}

pub has_number : (mark : Mark) → is_mark (code_of mark) ≡ true
has_number Unmarked = refl
has_number NationalHoliday = refl
has_number EarlierDispatch = refl
has_number EconomicDispatch = refl
