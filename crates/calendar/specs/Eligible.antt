-- Eligible days (document 01, 'Days'). Day k back, k from 1 to 30, is k days before the test day, whose count is `test`.
use Rattle.std.specs.Prelude.{◌≡◌, ◌<◌, Bool, not, ◌&&◌, List, [], ◌∷◌, ℕ, ◌-◌, leb, eqb, get_or, Result, MatchResult}
use Rattle.numbers.specs.Lists.{run, filter, any}
use Rattle.numbers.specs.Slots.{days_back}
use Rattle.calendar.specs.Dates.{is_weekend}
use Rattle.calendar.specs.declared.Mark.{Mark}
use Rattle.calendar.specs.declared.Mark.TheVariants.{Unmarked, NationalHoliday, EarlierDispatch, EconomicDispatch}
use Rattle.refusals.specs.declared.Refusal.{Refusal}
use Rattle.refusals.specs.declared.Refusal.TheVariants as refusal

-- 0 none; 1 national holiday; 2 earlier dispatch by the grid operator; 3 economic dispatch excluded on application
abbrev pub no_mark : ℕ
no_mark = 0

abbrev pub most_mark : ℕ
most_mark = 3

abbrev pub is_mark : ℕ → Bool
is_mark mark = leb mark most_mark

abbrev pub code_of : Mark → ℕ
code_of Unmarked = no_mark
code_of NationalHoliday = 1
code_of EarlierDispatch = 2
code_of EconomicDispatch = most_mark

-- a byte is read as the mark with this number, or refused
abbrev pub Decodes : ℕ → Result Mark Refusal → Type 0
Decodes code answer = MatchResult answer (λ mark. code_of mark ≡ code) (λ e. (e ≡ refusal.Mark) × (most_mark < code))

-- 8: 'a mark above 3'
abbrev pub mark_row : List ℕ → List (Bool × ℕ)
mark_row marks = (any (λ mark. not (is_mark mark)) marks, 8) ∷ []

-- what thirty values, that of day 1 back first, have for day k back
abbrev pub of_day : List ℕ → ℕ → ℕ
of_day values k = get_or values (k - 1) 0

-- 'It is eligible unless it is a Saturday or Sunday or its calendar mark is above 0.'
abbrev pub is_eligible : ℕ → List ℕ → ℕ → Bool
is_eligible test marks k = not (is_weekend (test - k)) && eqb (of_day marks k) no_mark

-- the eligible days of the thirty, nearest first
abbrev pub eligible_days : ℕ → List ℕ → List ℕ
eligible_days test marks = filter (is_eligible test marks) (run (λ k. k) 1 days_back)
