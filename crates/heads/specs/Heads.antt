-- The head and the calendar (document 01, 'The test book') and what opening refuses in them.
use Rattle.std.specs.Prelude.{Bool, not, ◌&&◌, ◌||◌, List, [], ◌∷◌, ◌++◌, ℕ, leb, ltb, eqb, length, get_or}
use Rattle.numbers.specs.Lists.{any}
use Rattle.numbers.specs.Words.{word16, word32}
use Rattle.numbers.specs.Refusals.{first_told}
use Rattle.calendar.specs.Dates.{is_date, day_count, is_weekend}
use Rattle.calendar.specs.Eligible.{mark_row}
use Rattle.heads.specs.Limits.{earliest_slot, latest_slot, most_loss, least_contract, most_contract, least_points, most_points}
use Rattle.heads.specs.declared.Head.{Head}

-- 'Tag 1, head, 17 bytes', 'Tag 2, calendar, 30 bytes'
abbrev pub head_tag : ℕ
head_tag = 1

abbrev pub head_length : ℕ
head_length = 17

abbrev pub calendar_tag : ℕ
calendar_tag = 2

abbrev pub calendar_length : ℕ
calendar_length = 30

-- where a head's values begin: 'year 2, month 1, day 1, s 1, loss low 2, high 2, extra-high 2, contract in kW 4', and then the count
abbrev pub year_at : ℕ
year_at = 0

abbrev pub month_at : ℕ
month_at = 2

abbrev pub day_at : ℕ
day_at = 3

abbrev pub slot_at : ℕ
slot_at = 4

abbrev pub low_loss_at : ℕ
low_loss_at = 5

abbrev pub high_loss_at : ℕ
high_loss_at = 7

abbrev pub extra_high_loss_at : ℕ
extra_high_loss_at = 9

abbrev pub contract_at : ℕ
contract_at = 11

abbrev pub count_at : ℕ
count_at = 15

-- the values of a head, whatever the length of its count
abbrev pub head_with : ℕ → List ℕ → Head
head_with count bytes = record {
  year = word16 bytes year_at;
  month = get_or bytes month_at 0;
  day = get_or bytes day_at 0;
  slot = get_or bytes slot_at 0;
  losses = word16 bytes low_loss_at ∷ word16 bytes high_loss_at ∷ word16 bytes extra_high_loss_at ∷ [];
  contract = word32 bytes contract_at;
  count = count;
}

-- 'point count 2'
unfoldable pub head_of : List ℕ → Head
head_of bytes = head_with (word16 bytes count_at) bytes

-- the count of the test day
abbrev pub test_day : Head → ℕ
test_day h = day_count h.year h.month h.day

-- THE ROWS of opening

-- 1: 'head not 17 or calendar not 30 bytes'
abbrev pub lengths_row : List ℕ → List ℕ → List (Bool × ℕ)
lengths_row head calendar = (not (eqb (length head) head_length && eqb (length calendar) calendar_length), 1) ∷ []

-- 2: 'no such date in range'. 3: 'Saturday or Sunday'
abbrev pub day_rows : Head → List (Bool × ℕ)
day_rows h = (not (is_date h.year h.month h.day), 2) ∷ (is_weekend (test_day h), 3) ∷ []

-- 4: 's not 18 to 34'
abbrev pub slot_row : ℕ → List (Bool × ℕ)
slot_row slot = (not (leb earliest_slot slot && leb slot latest_slot), 4) ∷ []

-- 5: 'a loss above 5,000'
abbrev pub loss_row : List ℕ → List (Bool × ℕ)
loss_row losses = (any (λ loss. ltb most_loss loss) losses, 5) ∷ []

-- 6: 'contract neither 0 nor 1,000 to 10,000,000'
abbrev pub is_contract : ℕ → Bool
is_contract contract = eqb contract 0 || leb least_contract contract && leb contract most_contract

abbrev pub contract_row : ℕ → List (Bool × ℕ)
contract_row contract = (not (is_contract contract), 6) ∷ []

-- the least and the most points that a head may count
pub record CountRange : Type 0 where
  pub least : ℕ
  pub most : ℕ

-- those of a head of 17 bytes, and of the contents of a state
abbrev pub counts : CountRange
counts = record { least = least_points; most = most_points }

abbrev pub is_count : CountRange → ℕ → Bool
is_count range count = leb range.least count && leb count range.most

-- 7: 'count not 1 to 10,000'
abbrev pub count_row : CountRange → ℕ → List (Bool × ℕ)
count_row range count = (not (is_count range count), 7) ∷ []

-- 2 to 8, on the values: these also test the contents of a state (9)
abbrev pub content_tests : CountRange → Head → List ℕ → List (Bool × ℕ)
content_tests range h marks =
    day_rows h
    ++ slot_row h.slot
    ++ loss_row h.losses
    ++ contract_row h.contract
    ++ count_row range h.count
    ++ mark_row marks

unfoldable pub content_refusal : Head → List ℕ → ℕ
content_refusal h marks = first_told (content_tests counts h marks)

-- 1 to 8, on the bytes of a head and of a calendar, whose bytes are the marks
abbrev pub opening_tests : List ℕ → List ℕ → List (Bool × ℕ)
opening_tests head calendar = lengths_row head calendar ++ content_tests counts (head_of head) calendar

unfoldable pub opening_refusal : List ℕ → List ℕ → ℕ
opening_refusal head calendar = first_told (opening_tests head calendar)
