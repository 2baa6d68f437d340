-- Points (document 01, 'The test book', CR 1 and CR 3): consumers, tag 3, generators, tag 4, and mixed-firing biomass plants, tag 5.
use Rattle.std.specs.Prelude.{Bool, true, false, cond, not, ◌&&◌, ◌||◌, List, [], ◌∷◌, ◌++◌, ℕ, ◌+◌, ◌*◌, leb, ltb, eqb, get_or, take, drop}
use Rattle.numbers.specs.Words.{word16, word32}
use Rattle.numbers.specs.PointNumbers.{number_length, is_number}
use Rattle.numbers.specs.Slots.{slots_of_day, window_slots}
use Rattle.readings.specs.Readings.{reading_count, first_large}
use Rattle.heads.specs.Limits.{low_class, extra_high_class, most_baseline, most_share}

-- a point: its tag and its value
pub record Point : Type 0 where
  pub tag : ℕ
  pub value : List ℕ

-- The kinds of point: a further kind is a line in each definition by kind.
pub data Kind : Type 0 where
  consumer generator mixed_firing unknown : Kind

abbrev pub consumer_tag : ℕ
consumer_tag = 3

abbrev pub generator_tag : ℕ
generator_tag = 4

abbrev pub mixed_firing_tag : ℕ
mixed_firing_tag = 5

abbrev pub kind_of : ℕ → Kind
kind_of tag =
    cond (eqb tag consumer_tag) consumer
    (cond (eqb tag generator_tag) generator
    (cond (eqb tag mixed_firing_tag) mixed_firing unknown))

abbrev pub is_unknown : Kind → Bool
is_unknown consumer = false
is_unknown generator = false
is_unknown mixed_firing = false
is_unknown unknown = true

-- 'Tag 3, consumer, 5,975 bytes: point number, class .., 1,488 readings of 4 bytes'
abbrev pub consumer_length : ℕ
consumer_length = 5_975

-- 'Tag 4, generator, 50 bytes: point number, baseline kW 4, six readings of 4'
abbrev pub generator_length : ℕ
generator_length = 50

-- 'tag 5, 72 bytes: point number, biomass share in tenths of a percent (2 bytes), six readings of the part outside the feed-in tariff, six
-- of the part inside it (4 bytes each)'. 'The pair stands under one number.'
abbrev pub mixed_firing_length : ℕ
mixed_firing_length = 72

abbrev pub size_of : Kind → ℕ
size_of consumer = consumer_length
size_of generator = generator_length
size_of mixed_firing = mixed_firing_length
size_of unknown = 0

-- where the parts of a value behind its number begin
abbrev pub class_at : ℕ
class_at = number_length

abbrev pub consumer_readings_at : ℕ
consumer_readings_at = class_at + 1

abbrev pub baseline_at : ℕ
baseline_at = number_length

abbrev pub generator_readings_at : ℕ
generator_readings_at = baseline_at + 4

abbrev pub share_at : ℕ
share_at = number_length

abbrev pub mixed_firing_readings_at : ℕ
mixed_firing_readings_at = share_at + 2

abbrev pub readings_at : Kind → ℕ
readings_at consumer = consumer_readings_at
readings_at generator = generator_readings_at
readings_at mixed_firing = mixed_firing_readings_at
readings_at unknown = 0

abbrev pub number_of : List ℕ → List ℕ
number_of value = take number_length value

abbrev pub class_of : List ℕ → ℕ
class_of value = get_or value class_at 0

-- '1 low, 2 high, 3 extra-high'
abbrev pub is_class : ℕ → Bool
is_class class = leb low_class class && leb class extra_high_class

abbrev pub baseline_of : List ℕ → ℕ
baseline_of value = word32 value baseline_at

abbrev pub share_of : List ℕ → ℕ
share_of value = word16 value share_at

abbrev pub readings_of : Kind → List ℕ → List ℕ
readings_of kind value = drop (readings_at kind) value

-- how many these are
abbrev pub readings_in : Kind → ℕ
readings_in consumer = reading_count
readings_in generator = window_slots
readings_in mixed_firing = 2 * window_slots
readings_in unknown = 0

-- a class, a baseline or a share that is not allowed
abbrev pub is_unfit : Kind → List ℕ → Bool
is_unfit consumer value = not (is_class (class_of value))
is_unfit generator value = ltb most_baseline (baseline_of value)
is_unfit mixed_firing value = ltb most_share (share_of value)
is_unfit unknown value = false

-- CR 3: 'the index of the first reading concerned, counted from 0 in the order of the field', or the number of readings where none is
-- above the limit
abbrev pub large_at : Kind → List ℕ → ℕ
large_at kind value = first_large (readings_of kind value) (readings_in kind)

-- a reading above the limit
abbrev pub has_large : Kind → List ℕ → Bool
has_large kind value = ltb (large_at kind value) (readings_in kind)

-- THE ROWS that a point's tag and value alone decide: adding's table and that of writing are joined from them.

-- 11: 'tag not 3 or 4'; CR 1: '11 and 12 now know tag 5'
abbrev pub tag_row : ℕ → List (Bool × ℕ)
tag_row tag = (is_unknown (kind_of tag), 11) ∷ []

-- 12: 'length not that of the tag'
abbrev pub length_row : ℕ → ℕ → List (Bool × ℕ)
length_row tag size = (not (eqb size (size_of (kind_of tag))), 12) ∷ []

-- the form of a point, whose value has so many bytes
abbrev pub form_rows : ℕ → ℕ → List (Bool × ℕ)
form_rows tag size = tag_row tag ++ length_row tag size

-- 14: 'number not 22 digits, or all nines'
abbrev pub number_row : List ℕ → List (Bool × ℕ)
number_row number = (not (is_number number), 14) ∷ []

-- 16: 'class not 1 to 3, or baseline above 1,000,000'; CR 1: '50, share above 1,000, at the place of 16'. That of a tag of no point
-- is never told.
abbrev pub unfit_number : Kind → ℕ
unfit_number consumer = 16
unfit_number generator = 16
unfit_number mixed_firing = 50
unfit_number unknown = 16

abbrev pub class_row : ℕ → List (Bool × ℕ)
class_row class = (not (is_class class), unfit_number consumer) ∷ []

abbrev pub baseline_row : ℕ → List (Bool × ℕ)
baseline_row kilowatt = (ltb most_baseline kilowatt, unfit_number generator) ∷ []

abbrev pub share_row : ℕ → List (Bool × ℕ)
share_row share = (ltb most_share share, unfit_number mixed_firing) ∷ []

abbrev pub unfit_row : ℕ → List ℕ → List (Bool × ℕ)
unfit_row tag value = (is_unfit (kind_of tag) value, unfit_number (kind_of tag)) ∷ []

-- a consumer's reading, by its index: of the test day, or of the days back
abbrev pub is_of_test_day : ℕ → Bool
is_of_test_day index = ltb index slots_of_day

-- 17: 'any reading above 1,000,000,000, used or not'; CR 3: '51, test day or generating point; 52, days back; both at the place of 17,
-- which is no longer given', by the index of the first such reading. 'The test day of a consumer and all readings of other kinds are one
-- case, the thirty days back the other.' That of a tag of no point is never told.
abbrev pub large_number : Kind → ℕ → ℕ
large_number consumer index = cond (is_of_test_day index) 51 52
large_number generator index = 51
large_number mixed_firing index = 51
large_number unknown index = 51

abbrev pub large_row : ℕ → List ℕ → List (Bool × ℕ)
large_row tag value = (has_large (kind_of tag) value, large_number (kind_of tag) (large_at (kind_of tag) value)) ∷ []

-- the value of a point behind its number
abbrev pub value_rows : ℕ → List ℕ → List (Bool × ℕ)
value_rows tag value = unfit_row tag value ++ large_row tag value

-- THE INDEX that adding and writing a point tell (CR 3).

-- the refusals that are about one reading
abbrev pub is_of_reading : ℕ → Bool
is_of_reading refusal = eqb refusal 51 || eqb refusal 52

-- 'The index is 0 in every other answer of adding and of writing a point.'
abbrev pub index_told : ℕ → ℕ → List ℕ → ℕ
index_told refusal tag value = cond (is_of_reading refusal) (large_at (kind_of tag) value) 0

-- what is told of a point: the number of a refusal, 0 is accepted, and the index of the reading that it is about, 0 where it is about none
pub record Refusal : Type 0 where
  pub number : ℕ
  pub index : ℕ

-- a refusal of a tag and value, with its index
abbrev pub with_index : ℕ → ℕ → List ℕ → Refusal
with_index refusal tag value = record { number = refusal; index = index_told refusal tag value }
