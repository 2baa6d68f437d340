-- Writing (document 01): what it answers, and what the lent bytes hold afterwards.
use Rattle.std.specs.Prelude.{Bool, cond, List, [], ◌∷◌, ◌++◌, ℕ, ◌+◌, ltb, eqb, length}
use Rattle.numbers.specs.Refusals.{first_told}
use Rattle.numbers.specs.Placing.{at_front}
use Rattle.heads.specs.Heads.{head_tag, calendar_tag, opening_tests}
use Rattle.points.specs.Points.{number_of, form_rows, number_row, value_rows, with_index, Refusal}
use Rattle.fields.specs.Fields.{header_length, written}

-- '40: too few bytes'
abbrev pub room_row : ℕ → ℕ → List (Bool × ℕ)
room_row room size = (ltb room size, 40) ∷ []

-- A HEAD with its calendar
abbrev pub written_head : List ℕ → List ℕ → List ℕ
written_head head calendar = written head_tag head ++ written calendar_tag calendar

-- '53 bytes'
abbrev pub head_room : ℕ
head_room = 53

-- 'A head: 1 to 8. Then 40: too few bytes.'
abbrev pub head_writing_tests : List ℕ → List ℕ → ℕ → List (Bool × ℕ)
head_writing_tests head calendar room = opening_tests head calendar ++ room_row room head_room

unfoldable pub head_writing_refusal : List ℕ → List ℕ → ℕ → ℕ
head_writing_refusal head calendar room = first_told (head_writing_tests head calendar room)

unfoldable pub head_writing_out : List ℕ → List ℕ → List ℕ → List ℕ
head_writing_out head calendar out =
    cond (eqb (head_writing_refusal head calendar (length out)) 0) (at_front (written_head head calendar) out) out

-- A POINT. 'A point: 11, 12, 14, 16, 17. Then 40: too few bytes.' CR 1: 50 in the place of 16; CR 3: 51 and 52 in that of 17.
abbrev pub value_writing_tests : ℕ → List ℕ → List (Bool × ℕ)
value_writing_tests tag value = form_rows tag (length value) ++ number_row (number_of value) ++ value_rows tag value

abbrev pub point_writing_tests : ℕ → List ℕ → ℕ → List (Bool × ℕ)
point_writing_tests tag value room = value_writing_tests tag value ++ room_row room (header_length + length value)

unfoldable pub value_writing_refusal : ℕ → List ℕ → ℕ
value_writing_refusal tag value = first_told (value_writing_tests tag value)

unfoldable pub point_writing_refusal : ℕ → List ℕ → ℕ → ℕ
point_writing_refusal tag value room = first_told (point_writing_tests tag value room)

-- the answer; CR 3: with the index of the reading
abbrev pub point_writing_answer : ℕ → List ℕ → ℕ → Refusal
point_writing_answer tag value room = with_index (point_writing_refusal tag value room) tag value

unfoldable pub point_writing_out : ℕ → List ℕ → List ℕ → List ℕ
point_writing_out tag value out = cond (eqb (point_writing_refusal tag value (length out)) 0) (at_front (written tag value) out) out
