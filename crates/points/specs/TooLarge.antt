-- THE READING THAT IS TOO LARGE (CR 3), on the bytes of a point's value: what a customer may rely on of adding and of writing a point.
use Rattle.std.specs.Prelude.{◌≡◌, ◌⊎◌, Bool, List, ℕ, ◌+◌, ◌*◌, ◌<◌, ◌≤◌}
use Rattle.numbers.specs.Refusals.{first_told}
use Rattle.numbers.specs.Slots.{slots_of_day}
use Rattle.numbers.specs.Words.{word32}
use Rattle.readings.specs.Readings.{reading_length, most_reading}
use Rattle.points.specs.Points.{Kind, consumer_tag, kind_of, readings_at, readings_in}

-- reading i of a value, 'counted from 0 in the order of the field'; class, baseline and share are no readings
abbrev pub reading_at : Kind → List ℕ → ℕ → ℕ
reading_at kind value i = word32 value (readings_at kind + i * reading_length)

-- the first reading above the limit; 'where both cases occur the lower index wins'
pub record IsFirstLarge (kind : Kind) (value : List ℕ) (index : ℕ) : Type 0 where
  pub within : index < readings_in kind
  pub large : most_reading < reading_at kind value index
  pub before : (i : ℕ) → i < index → reading_at kind value i ≤ most_reading

-- what an answer to a tag and value tells, where these rows are told before it
pub record TellsReading (earlier : List (Bool × ℕ)) (tag : ℕ) (value : List ℕ) (refusal index : ℕ) : Type 0 where
  -- a reading above the limit, 'used or not', is told where no row before it is
  pub told : first_told earlier ≡ 0 → (i : ℕ) → i < readings_in (kind_of tag) → most_reading < reading_at (kind_of tag) value i
      → (refusal ≡ 51) ⊎ (refusal ≡ 52)
  -- '51, test day or generating point'
  pub test_day : refusal ≡ 51 → IsFirstLarge (kind_of tag) value index × (tag ≡ consumer_tag → index < slots_of_day)
  -- '52, days back': so the test day has none
  pub days_back : refusal ≡ 52 → IsFirstLarge (kind_of tag) value index × (tag ≡ consumer_tag) × (slots_of_day ≤ index)
  -- 'both at the place of 17': behind those rows
  pub place : (refusal ≡ 51) ⊎ (refusal ≡ 52) → first_told earlier ≡ 0
  -- 'The index is 0 in every other answer'
  pub other : (refusal ≡ 51 → ⊥) → (refusal ≡ 52 → ⊥) → index ≡ 0
  -- an accepted point has no such reading
  pub accepted : refusal ≡ 0 → (i : ℕ) → i < readings_in (kind_of tag) → reading_at (kind_of tag) value i ≤ most_reading
