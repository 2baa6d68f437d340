-- What a record shows that keeps the rules. Assumes nothing.
use mathlib.Core.Path.{◌≡◌, refl, ap, ◌∙◌}
use mathlib.Core.Bool.{Bool, true, false, cond, not, ◌&&◌, ◌||◌, false≢true}
use Prim.Native.Nat.{ℕ, ◌*◌, ◌≤◌}
use native.Mathlib.Omega.{arith}
use lib.Dec.{eqb, leb}
use lib.IntN.{ℤ, pos, negsuc, nat_abs, ◌+ℤ◌}
use lib.ListN.{get_or}
use mir.Syntax.{w64}
use Rattle.std.specs.Prelude.{Option, Some, None, SomeIff, MatchOption, FitsSigned, int_lt}
use borrow.Author.Tests.{eqb-true, leb-true, ltb-false, not-false}
use Rattle.std.proofs.lemmas.Bool.{and_parts}
use Rattle.numbers.specs.Slots.{window_slots}
use Rattle.numbers.proofs.Filling.{any_none}
use Rattle.integers.specs.Integers.{or_zero}
use Rattle.heads.specs.Limits.{most_result}
use Rattle.heads.specs.Heads.{is_contract, CountRange, is_count}
use Rattle.figures.specs.Figures.{settled_of, expected_of, is_bid}
use Rattle.records.specs.Rules.{equal, from_zero, is_allowed, rules, missed_rule, reached_rule, breaks_within}
use Rattle.records.specs.declared.Record.{Record}

-- ---- single words

pub same_number : (a b : ℤ) → equal a b ≡ true → a ≡ b
same_number (pos m) (pos n) e = ap pos (eqb-true m n e)
same_number (pos m) (negsuc n) e = absurd (false≢true e)
same_number (negsuc m) (pos n) e = absurd (false≢true e)
same_number (negsuc m) (negsuc n) e = ap negsuc (eqb-true m n e)

pub no_sign : (z : ℤ) → from_zero z ≡ true → z ≡ pos (or_zero z)
no_sign (pos n) e = refl
no_sign (negsuc n) e = absurd (false≢true e)

-- ---- an allowed contract is no more than 10,000,000

contract_small : (n : ℕ) → is_contract n ≡ true → n ≤ 10_000_000
contract_small n e = go (eqb n 0) refl e
  where
    go : (t : Bool) → eqb n 0 ≡ t → (t || leb 1_000 n && leb n 10_000_000) ≡ true → n ≤ 10_000_000
    go true z e = omega (arith, eqb-true n 0 z)
    go false z e = leb-true n 10_000_000 (and_parts (leb 1_000 n) (leb n 10_000_000) e).1

pub allowed_small : (z : ℤ) → is_allowed z ≡ true → nat_abs z ≤ 10_000_000
allowed_small (pos n) e = contract_small n (and_parts (from_zero (pos n)) (is_contract n) e).1
allowed_small (negsuc n) e = absurd (false≢true e)

allowed_fits : (z : ℤ) → is_allowed z ≡ true → FitsSigned w64 z
allowed_fits (pos n) e = record { sfits = omega (arith, allowed_small (pos n) e) }
allowed_fits (negsuc n) e = absurd (false≢true e)

-- a sum that is told where it fits
pub allowed_sum : (z : ℤ) (sum : Option ℤ) (told : Bool) → SomeIff sum (FitsSigned w64 z) z
    → MatchOption sum (told ≡ false) (λ x. told ≡ is_allowed x) → told ≡ is_allowed z
allowed_sum z (Some x) told s m = m ∙ ap is_allowed (s.1)
allowed_sum z None told s m = go (is_allowed z) refl
  where
    go : (t : Bool) → is_allowed z ≡ t → told ≡ t
    go true e = absurd (s (allowed_fits z e))
    go false e = m

-- ---- all of the rules

pub record Kept (range : CountRange) (r : Record) : Type 0 where
  pub settled : r.settled ≡ settled_of r.total
  pub expected : r.expected ≡ pos (expected_of r.settled)
  pub kept : r.kept ≡ pos (or_zero r.kept)
  pub surplus : r.surplus ≡ pos (or_zero r.surplus)
  pub split : r.kept +ℤ r.surplus ≡ r.expected
  pub bid : r.bid ≡ pos (cond (is_bid (or_zero r.expected)) 1 0)
  pub shortfall : r.shortfall ≡ pos (or_zero r.shortfall)
  pub missed : missed_rule r ≡ true
  pub reached : reached_rule r ≡ true
  pub points : r.points ≡ pos (or_zero r.points)
  pub least : range.least ≤ or_zero r.points
  pub most : or_zero r.points ≤ range.most
  pub total : nat_abs r.total ≤ window_slots * most_result * or_zero r.points

module _ (range : CountRange) (r : Record) (keeps : breaks_within range r ≡ false) where
  rule : (i : ℕ) → get_or (rules range r) i true ≡ true
  unfolding breaks_within
  rule i = not-false _ (any_none not true refl (rules range r) keeps i)

  pub kept : Kept range r
  kept =
      let split = and_parts (from_zero r.kept && from_zero r.surplus) (equal (r.kept +ℤ r.surplus) r.expected) (rule 2) in
      let sizes = and_parts (from_zero r.kept) (from_zero r.surplus) split.0 in
      let points = and_parts (from_zero r.points) (is_count range (or_zero r.points)) (rule 7) in
      let counted = and_parts (leb range.least (or_zero r.points)) (leb (or_zero r.points) range.most) points.1 in
      record {
        settled = same_number _ _ (rule 0);
        expected = same_number _ _ (rule 1);
        kept = no_sign r.kept sizes.0;
        surplus = no_sign r.surplus sizes.1;
        split = same_number _ _ split.1;
        bid = same_number _ _ (rule 3);
        shortfall = no_sign r.shortfall (rule 4);
        missed = rule 5;
        reached = rule 6;
        points = no_sign r.points points.0;
        least = leb-true _ _ counted.0;
        most = leb-true _ _ counted.1;
        total = leb-true _ _ (rule 8);
      }

-- ---- the two cases of the shortfall

not_short : (h : ℤ) → h ≡ pos (or_zero h) → int_lt (pos 0) h ≡ false → h ≡ pos 0
not_short (pos n) e t = ap pos (omega (arith, ltb-false 0 n t))
not_short (negsuc n) e t = e

module _ (range : CountRange) (r : Record) (k : Kept range r) where
  -- the contract is missed
  pub missed : int_lt (pos 0) r.shortfall ≡ true → (r.surplus ≡ pos 0) × (is_allowed (r.settled +ℤ r.shortfall) ≡ true)
  missed t =
      let both : (equal r.surplus (pos 0) && is_allowed (r.settled +ℤ r.shortfall)) ≡ true = rw t at k.missed in
      let parts = and_parts (equal r.surplus (pos 0)) (is_allowed (r.settled +ℤ r.shortfall)) both in
      (same_number r.surplus (pos 0) parts.0, parts.1)

  -- it is reached
  pub reached : int_lt (pos 0) r.shortfall ≡ false → (r.shortfall ≡ pos 0) × (from_zero r.settled ≡ true) × (is_allowed r.kept ≡ true)
  reached t =
      let zero : r.shortfall ≡ pos 0 = not_short r.shortfall k.shortfall t in
      let both : (from_zero r.settled && is_allowed r.kept) ≡ true = rw zero at k.reached in
      let parts = and_parts (from_zero r.settled) (is_allowed r.kept) both in
      (zero, parts.0, parts.1)
