-- Fields (document 01, 'The test book'): 'tag of one byte, length of two bytes, value'. `left` is what is left of the book.
use Rattle.std.specs.Prelude.{Bool, true, false, cond, not, ◌&&◌, List, [], ◌∷◌, ◌++◌, ℕ, ◌+◌, ltb, eqb, length, get_or, take, drop}
use Rattle.numbers.specs.Words.{word16, bytes_of}
use Rattle.numbers.specs.Refusals.{first_told}
use Rattle.heads.specs.Heads.{head_tag, head_length, calendar_tag, calendar_length}
use Rattle.points.specs.Points.{kind_of, is_unknown, size_of}
use Rattle.fields.specs.declared.Due.{Due}
use Rattle.fields.specs.declared.Due.TheVariants.{Head, Calendar, Point}

-- a field's header: tag and length
abbrev pub header_length : ℕ
header_length = 3

abbrev pub length_at : ℕ
length_at = 1

abbrev pub tag_at : List ℕ → ℕ
tag_at left = get_or left 0 0

-- whether a tag may stand where a field is due
abbrev pub is_tag : Due → ℕ → Bool
is_tag Head tag = eqb tag head_tag
is_tag Calendar tag = eqb tag calendar_tag
is_tag Point tag = not (is_unknown (kind_of tag))

-- the length that a value must have
abbrev pub length_due : Due → ℕ → ℕ
length_due Head tag = head_length
length_due Calendar tag = calendar_length
length_due Point tag = size_of (kind_of tag)

abbrev pub is_point : Due → Bool
is_point Head = false
is_point Calendar = false
is_point Point = true

-- '20: no byte left where a point is due. 31: under three bytes left.'
abbrev pub short_rows : Due → ℕ → List (Bool × ℕ)
short_rows due size = (is_point due && eqb size 0, 20) ∷ (ltb size header_length, 31) ∷ []

-- '41: wrong tag for head or calendar; 11 for a point'
abbrev pub due_tag_row : Due → ℕ → List (Bool × ℕ)
due_tag_row due tag = (not (is_tag due tag), cond (is_point due) 11 41) ∷ []

-- '1 or 12: wrong length'
abbrev pub due_length_row : Due → ℕ → ℕ → List (Bool × ℕ)
due_length_row due tag size = (not (eqb size (length_due due tag)), cond (is_point due) 12 1) ∷ []

-- a header
abbrev pub header_tests : Due → List ℕ → List (Bool × ℕ)
header_tests due left =
    short_rows due (length left) ++ due_tag_row due (tag_at left) ++ due_length_row due (tag_at left) (word16 left length_at)

unfoldable pub header_refusal : Due → List ℕ → ℕ
header_refusal due left = first_told (header_tests due left)

-- '31: value cut'
abbrev pub cut_row : Due → List ℕ → List (Bool × ℕ)
cut_row due left = (ltb (length left) (header_length + length_due due (tag_at left)), 31) ∷ []

abbrev pub field_tests : Due → List ℕ → List (Bool × ℕ)
field_tests due left = header_tests due left ++ cut_row due left

unfoldable pub field_refusal : Due → List ℕ → ℕ
field_refusal due left = first_told (field_tests due left)

-- the field answer: the tag and the length of the value, or the refusal that ends the reading
pub data Field : Type 0 where
  Value : ℕ → ℕ → Field
  Refused : ℕ → Field

-- THE FIELD ANSWER
unfoldable pub field_of : Due → List ℕ → Field
field_of due left =
    cond (eqb (field_refusal due left) 0)
    (Value (tag_at left) (length_due due (tag_at left)))
    (Refused (field_refusal due left))

-- its number
abbrev pub refusal_of : Field → ℕ
refusal_of (Value tag size) = 0
refusal_of (Refused refusal) = refusal

-- its value, 'the part of the book that begins there', and what is left behind it
abbrev pub value_in : ℕ → List ℕ → List ℕ
value_in size left = take size (drop header_length left)

abbrev pub behind : ℕ → List ℕ → List ℕ
behind size left = drop (header_length + size) left

-- a field as it is written
abbrev pub written : ℕ → List ℕ → List ℕ
written tag value = tag ∷ bytes_of 2 (length value) ++ value
