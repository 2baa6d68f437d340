-- Kinds of point by their tags, and what a point with allowed values shows. Assumes nothing.
use mathlib.Core.Path.{◌≡◌, refl, ap}
use mathlib.Core.Logic.{◌⊎◌, inl, inr, ⊎_elim}
use mathlib.Core.Bool.{Bool, true, false, cond, ◌||◌}
use mathlib.Core.List.{List}
use Prim.Native.Nat.{ℕ, ◌+◌, ◌*◌, ◌≤◌, ◌<◌}
use native.Mathlib.Omega.{arith}
use lib.Dec.{T, eqb}
use borrow.Author.Tests.{ne_eqb, lt-ltb}
use Rattle.numbers.specs.Lists.{any}
use Rattle.numbers.specs.Refusals.{first_told}
use Rattle.numbers.proofs.Refusals.{numbered, clear}
use Rattle.numbers.proofs.Tests.{none_of}
use Rattle.numbers.specs.PointNumbers.{number_length}
use Rattle.readings.specs.Readings.{reading_length}
use Rattle.points.specs.Points.{consumer_tag, generator_tag, mixed_firing_tag, consumer_length, Kind, consumer, generator, mixed_firing, unknown, kind_of}
use Rattle.points.specs.Points.{is_unknown, size_of, readings_at, readings_in, is_unfit, large_at, has_large, unfit_number, is_of_test_day, large_number, is_of_reading, value_rows}

module _ (tag : ℕ) where
  -- the kind of a tag that is some number: at the number of a kind it computes
  pub of_tag : (number : ℕ) → tag ≡ number → kind_of tag ≡ kind_of number
  of_tag number e = ap kind_of e

  -- a tag of no kind of point
  abbrev pub Other : Type 0
  Other = (tag ≡ consumer_tag → ⊥) × (tag ≡ generator_tag → ⊥) × (tag ≡ mixed_firing_tag → ⊥)

  pub is_unknown_lem : Other → kind_of tag ≡ unknown
  is_unknown_lem n = simp (ne_eqb tag consumer_tag n.0, ne_eqb tag generator_tag n.1, ne_eqb tag mixed_firing_tag n.2)

-- every kind of point has room for its number, and none is longer than a consumer
pub known_length : (kind : Kind) → is_unknown kind ≡ false → number_length ≤ size_of kind
known_length consumer e = omega arith
known_length generator e = omega arith
known_length mixed_firing e = omega arith
known_length unknown e = absurd (let z : ◌≡◌ {A = ℕ} 0 1 = cc in omega arith)

pub kind_small : (kind : Kind) → size_of kind ≤ consumer_length
kind_small consumer = omega arith
kind_small generator = omega arith
kind_small mixed_firing = omega arith
kind_small unknown = omega arith

-- the readings fill the value behind its other parts
pub readings_fill : (kind : Kind) → readings_at kind + readings_in kind * reading_length ≡ size_of kind
readings_fill consumer = refl
readings_fill generator = refl
readings_fill mixed_firing = refl
readings_fill unknown = refl

-- the number of an unfit value is above those of the rows before it
pub unfit_above : (kind : Kind) → 15 < unfit_number kind
unfit_above consumer = omega arith
unfit_above generator = omega arith
unfit_above mixed_firing = omega arith
unfit_above unknown = omega arith

-- numbers about a reading: those that are told, and the one that was
abbrev pub is_of_reading_or17 : ℕ → Bool
is_of_reading_or17 n = is_of_reading n || eqb n 17

-- an unfit value has none of them
pub unfit_other : (kind : Kind) → is_of_reading_or17 (unfit_number kind) ≡ false
unfit_other consumer = refl
unfit_other generator = refl
unfit_other mixed_firing = refl
unfit_other unknown = refl

-- that of a large reading is 51 where it is no consumer's
pub large_other : (tag index : ℕ) → (tag ≡ consumer_tag → ⊥) → large_number (kind_of tag) index ≡ 51
large_other tag index n = rw (ne_eqb tag consumer_tag n) (go (eqb tag generator_tag) (eqb tag mixed_firing_tag))
  where
    go : (a b : Bool) → large_number (cond a generator (cond b mixed_firing unknown)) index ≡ 51
    go true b = refl
    go false true = refl
    go false false = refl

-- and 51 or 52 in any case
abbrev pub Large : ℕ → Type 0
Large number = (number ≡ 51) ⊎ (number ≡ 52)

pub large_number_lem : (kind : Kind) (index : ℕ) → Large (large_number kind index)
large_number_lem consumer index = go (is_of_test_day index)
  where
    go : (t : Bool) → Large (cond t 51 52)
    go true = inl refl
    go false = inr refl
large_number_lem generator index = inl refl
large_number_lem mixed_firing index = inl refl
large_number_lem unknown index = inl refl

-- so it is above those of the other rows, and told with an index
pub large_above : {number : ℕ} → Large number → 50 < number
large_above = ⊎_elim (λ e. omega arith) (λ e. omega arith)

pub large_of_reading : {number : ℕ} → Large number → is_of_reading number ≡ true
large_of_reading = ⊎_elim (ap is_of_reading) (ap is_of_reading)

-- ---- a point with allowed values

module _ (tag : ℕ) (value : List ℕ) where
  abbrev pub unfit : ℕ
  unfit = unfit_number (kind_of tag)

  abbrev pub large : ℕ
  large = large_number (kind_of tag) (large_at (kind_of tag) value)

  -- the numbers of the rows of a value are above those of the rows before it
  rows_above : (15 < unfit) × (15 < large)
  rows_above = (unfit_above (kind_of tag), omega (arith, large_above (large_number_lem (kind_of tag) (large_at (kind_of tag) value))))

  -- none of them is 0
  pub values_numbered : T (numbered (value_rows tag value))
  values_numbered = rw (lt-ltb 0 unfit (omega (arith, rows_above.0)), lt-ltb 0 large (omega (arith, rows_above.1))) tt

  -- nor that of a row before it
  pub values_above : (n : ℕ) → n ≤ 15 → T (none_of (λ row. eqb row.1 n) (value_rows tag value))
  unfolding any
  values_above n h = rw (ne_eqb unfit n (λ e. omega (arith, rows_above.0)), ne_eqb large n (λ e. omega (arith, rows_above.1))) tt

  module _ (accepted : first_told (value_rows tag value) ≡ 0) where
    pub fits : is_unfit (kind_of tag) value ≡ false
    fits = (clear (value_rows tag value) values_numbered accepted).0

    pub all_small : has_large (kind_of tag) value ≡ false
    all_small = (clear (value_rows tag value) values_numbered accepted).1.0
