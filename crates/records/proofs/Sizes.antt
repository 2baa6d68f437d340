-- How far from zero the words of records that keep the rules can be, and their sums; for lists of up to ten times the points. Assumes nothing.
use mathlib.Core.Path.{◌≡◌, refl}
use mathlib.Core.Bool.{Bool, true, false}
use mathlib.Core.List.{List, [], ◌∷◌}
use Prim.Native.Nat.{ℕ, ◌+◌, ◌*◌, ◌^◌, ◌<◌, ◌≤◌}
use native.Mathlib.Nat.{suc-mul}
use native.Mathlib.Omega.{arith}
use lib.IntN.{ℤ, pos, negsuc, nat_abs, ◌+ℤ◌}
use lib.ListN.{length}
use Rattle.std.specs.Prelude.{int_lt}
use Rattle.std.proofs.lemmas.Bool.{or_parts}
use Rattle.std.proofs.lemmas.Int.{ints}
use Rattle.numbers.specs.Lists.{any}
use Rattle.integers.specs.Integers.{or_zero, sum_ℤ}
use Rattle.integers.proofs.Machine.{sum_abs}
use Rattle.heads.specs.Limits.{most_points}
use Rattle.heads.specs.Heads.{CountRange, counts}
use Rattle.figures.specs.Figures.{settled_of}
use Rattle.records.specs.Rules.{breaks_within, breaks_rule}
use Rattle.records.specs.Report.{most_records, sum_of, sums_of}
use Rattle.records.specs.Summing.{Room}
use Rattle.records.specs.declared.Record.{Record}
use Rattle.records.proofs.Keeping.{Kept, kept, missed, reached, allowed_small}

-- ---- the words

-- of 500 such words the sum fits a word of eight bytes
abbrev pub most_size : ℕ
most_size = 10_000_000_000_000_000

pub record Small (r : Record) : Type 0 where
  pub points : nat_abs r.points ≤ most_size
  pub total : nat_abs r.total ≤ most_size
  pub settled : nat_abs r.settled ≤ most_size
  pub shortfall : nat_abs r.shortfall ≤ most_size
  pub expected : nat_abs r.expected ≤ most_size
  pub kept : nat_abs r.kept ≤ most_size
  pub surplus : nat_abs r.surplus ≤ most_size

settled_size : (total : ℤ) → nat_abs (settled_of total) ≤ nat_abs total
settled_size (pos n) = omega arith
settled_size (negsuc n) = omega arith

from_zero_size : (z : ℤ) → or_zero z ≤ nat_abs z
from_zero_size (pos n) = omega arith
from_zero_size (negsuc n) = omega arith

module _ (range : CountRange) (tenfold : range.most ≤ 10 * most_points) (r : Record) (k : Kept range r) where
  total_size : nat_abs r.total ≤ 2_400_000_000_000_000
  total_size = omega (arith, tenfold, k.most, k.total)

  settled_small : nat_abs r.settled ≤ 2_400_000_000_000_000
  settled_small = let e = k.settled in let s = settled_size r.total in rw e (omega (arith, s, total_size))

  expected_small : nat_abs r.expected ≤ 2_400_000_000_000_000
  expected_small = rw k.expected (omega (arith, from_zero_size r.settled, settled_small))

  -- a contract is reached, or missed by no more than it is and the settled capacity below zero
  shortfall_small : nat_abs r.shortfall ≤ most_size
  shortfall_small = go (int_lt (pos 0) r.shortfall) refl
    where
      go : (t : Bool) → int_lt (pos 0) r.shortfall ≡ t → nat_abs r.shortfall ≤ most_size
      go true t = omega (arith, ints, settled_small, allowed_small (r.settled +ℤ r.shortfall) (missed range r k t).1)
      go false t = rw (reached range r k t).0 (omega arith)

  pub small : Small r
  small = record {
    points = rw k.points (omega (arith, tenfold, k.most));
    total = omega (arith, total_size);
    settled = omega (arith, settled_small);
    shortfall = shortfall_small;
    expected = omega (arith, expected_small);
    kept = omega (arith, ints, k.kept, k.surplus, k.split, expected_small);
    surplus = omega (arith, ints, k.kept, k.surplus, k.split, expected_small);
  }

-- ---- the sums

module _ (range : CountRange) (tenfold : range.most ≤ 10 * most_points) where
  each : (r : Record) → breaks_within range r ≡ false → Small r
  each r keeps = small range tenfold r (kept range r keeps)

  module _ (word : Record → ℤ) (fits : (r : Record) → Small r → nat_abs (word r) ≤ most_size) where
    pub sum_size : (rs : List Record) → any (breaks_within range) rs ≡ false → nat_abs (sum_of word rs) ≤ length rs * most_size
    unfolding any sum_ℤ
    sum_size [] keep = omega arith
    sum_size (r ∷ rs) keep =
        let p = or_parts (breaks_within range r) (any (breaks_within range) rs) keep in
        omega (arith, suc-mul (length rs) most_size, sum_abs (word r) (sum_of word rs), fits r (each r p.0), sum_size rs p.1)

-- one record more has room among fewer than 500
pub room : (rs : List Record) (r : Record) → any breaks_rule rs ≡ false → breaks_rule r ≡ false → length rs < most_records → Room (sums_of rs) r
room rs r keep keeps fewer = record {
  records = omega (arith, fewer);
  points = sum_room (λ r. r.points) λ r s. s.points;
  total = sum_room (λ r. r.total) λ r s. s.total;
  settled = sum_room (λ r. r.settled) λ r s. s.settled;
  shortfall = sum_room (λ r. r.shortfall) λ r s. s.shortfall;
  expected = sum_room (λ r. r.expected) λ r s. s.expected;
  kept = sum_room (λ r. r.kept) λ r s. s.kept;
  surplus = sum_room (λ r. r.surplus) λ r s. s.surplus;
}
  where
    tenfold : counts.most ≤ 10 * most_points
    tenfold = omega arith

    sum_room : (word : Record → ℤ) → ((r : Record) → Small r → nat_abs (word r) ≤ most_size) → nat_abs (sum_of word rs) + nat_abs (word r) < 2 ^ 63
    sum_room word fits = omega (arith, fewer, sum_size counts tenfold word fits rs keep, fits r (each counts tenfold r keeps))
