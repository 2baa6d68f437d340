-- An accepted closing and the words of its figures, each from the other. Assumes nothing.
use mathlib.Core.Path.{◌≡◌, refl, sym, ap, ◌∙◌}
use mathlib.Core.Bool.{Bool, true, false, cond, not, ◌&&◌, ◌||◌}
use mathlib.Core.List.{List}
use Prim.Native.Nat.{ℕ, ◌*◌, ◌-◌, ◌<◌, ◌≤◌}
use native.Mathlib.Omega.{arith}
use lib.Dec.{ltb, eqb}
use lib.IntN.{ℤ, pos, negsuc, nat_abs, ◌+ℤ◌, ◌-ℤ◌}
use lib.ListN.{length}
use Rattle.std.specs.Prelude.{int_lt}
use borrow.Author.Tests.{not-false, ltb-false, eq-eqb, le-leb, ltb-true, eqb-true}
use Rattle.std.proofs.lemmas.Int.{ints}
use Rattle.numbers.specs.Lists.{any}
use Rattle.numbers.specs.Slots.{window_slots}
use Rattle.integers.specs.Integers.{or_zero, sum_ℤ}
use Rattle.heads.specs.Limits.{most_result}
use Rattle.heads.specs.Heads.{is_contract, counts, is_count}
use Rattle.figures.specs.Figures.{settled_of, shortfall_of, expected_of, kept_of, is_bid, figures_of}
use Rattle.figures.specs.declared.Figures.{Figures}
use Rattle.heads.specs.Heads.{content_tests, content_refusal}
use Rattle.numbers.proofs.Refusals.{test_of, untold}
use Rattle.integers.proofs.Sums.{sumℤ-below}
use Rattle.results.proofs.Bounds.{none_beyond}
use Rattle.ledger.specs.States.{slot_totals}
use Rattle.ledger.specs.Operations.{closing_tests, closing_refusal, close_of}
use Rattle.ledger.specs.declared.State.{State}
use Rattle.ledger.proofs.Sound.{close_refusal, close_good, Sound, sound}
use Rattle.records.specs.Rules.{equal, from_zero, is_allowed, breaks_within, breaks_rule}
use Rattle.records.specs.declared.Record.{Record}

-- the words of figures
abbrev pub words : Figures → Record
words f = record {
  total = f.total;
  settled = f.settled;
  shortfall = pos f.shortfall;
  expected = pos f.expected;
  kept = pos f.kept;
  surplus = pos f.surplus;
  points = pos f.points;
  bid = pos (cond f.bid 1 0);
}

-- ---- single rules, of the figures

pub equal_itself : (z : ℤ) → equal z z ≡ true
equal_itself (pos n) = eq-eqb n n refl
equal_itself (negsuc n) = eq-eqb n n refl

not_below : (n : ℕ) → from_zero (pos n) ≡ true
not_below n = le-leb 0 n (omega arith)

-- the contract is missed: the shortfall is what lacks
missed_sum : (c : ℕ) (s : ℤ) → 0 < shortfall_of c s → s +ℤ pos (shortfall_of c s) ≡ pos c
missed_sum c s = go (pos c -ℤ s) refl
  where
    go : (z : ℤ) → pos c -ℤ s ≡ z → 0 < or_zero z → s +ℤ pos (or_zero z) ≡ pos c
    go (pos m) e p = omega (arith, ints, e)
    go (negsuc m) e p = absurd (omega (arith, p))

missed_kept : (c : ℕ) (s : ℤ) → 0 < shortfall_of c s → expected_of s ≤ c
missed_kept c (pos n) p = go (pos c -ℤ pos n) refl p
  where
    go : (z : ℤ) → pos c -ℤ pos n ≡ z → 0 < or_zero z → n ≤ c
    go (pos m) e p = omega (arith, ints, e)
    go (negsuc m) e p = absurd (omega (arith, p))
missed_kept c (negsuc n) p = omega arith

-- it is reached
reached_all : (c : ℕ) (s : ℤ) → shortfall_of c s ≡ 0 → (from_zero s ≡ true) × (c ≤ expected_of s)
reached_all c (pos n) z = (not_below n, go (pos c -ℤ pos n) refl z)
  where
    go : (d : ℤ) → pos c -ℤ pos n ≡ d → or_zero d ≡ 0 → c ≤ n
    go (pos m) e z = omega (arith, ints, e, z)
    go (negsuc m) e z = omega (arith, ints, e)
reached_all c (negsuc n) z = go (pos c -ℤ negsuc n) refl z
  where
    go : (d : ℤ) → pos c -ℤ negsuc n ≡ d → or_zero d ≡ 0 → (from_zero (negsuc n) ≡ true) × (c ≤ 0)
    go (pos m) e z = absurd (omega (arith, ints, e, z))
    go (negsuc m) e z = absurd (omega (arith, ints, e))

module _ (c : ℕ) (s : ℤ) where
  split : equal (pos (kept_of c s) +ℤ pos (expected_of s - kept_of c s)) (pos (expected_of s)) ≡ true
  split = eq-eqb _ _ (omega arith)

  module _ (allowed : is_contract c ≡ true) where
    short : (not (int_lt (pos 0) (pos (shortfall_of c s))) || equal (pos (expected_of s - kept_of c s)) (pos 0) && is_allowed (s +ℤ pos (shortfall_of c s))) ≡ true
    short = go (ltb 0 (shortfall_of c s)) refl
      where
        go : (t : Bool) → ltb 0 (shortfall_of c s) ≡ t
            → (not t || equal (pos (expected_of s - kept_of c s)) (pos 0) && is_allowed (s +ℤ pos (shortfall_of c s))) ≡ true
        go true t =
            let p = ltb-true 0 (shortfall_of c s) t in
            let none : eqb (expected_of s - kept_of c s) 0 ≡ true = eq-eqb _ _ (omega (arith, missed_kept c s p)) in
            rw (none, missed_sum c s p, not_below c, allowed)
        go false t = refl

    reached : (not (equal (pos (shortfall_of c s)) (pos 0)) || from_zero s && is_allowed (pos (kept_of c s))) ≡ true
    reached = go (eqb (shortfall_of c s) 0) refl
      where
        go : (t : Bool) → eqb (shortfall_of c s) 0 ≡ t → (not t || from_zero s && is_allowed (pos (kept_of c s))) ≡ true
        go true t =
            let r = reached_all c s (eqb-true _ _ t) in
            let k : kept_of c s ≡ c = omega (arith, r.1) in
            rw (r.0, k, not_below c, allowed)
        go false t = refl

-- ---- all of them

module _ (contract : ℕ) (totals : List ℤ) (points : ℕ) (allowed : is_contract contract ≡ true) (counted : is_count counts points ≡ true)
    (within : nat_abs (sum_ℤ totals) ≤ window_slots * most_result * points) where
  pub figures_keep : breaks_rule (words (figures_of contract totals points)) ≡ false
  unfolding breaks_within any figures_of
  figures_keep =
      let s = settled_of (sum_ℤ totals) in
      rw (
        short contract s allowed,
        reached contract s allowed,
        equal_itself s,
        equal_itself (pos (expected_of s)),
        not_below (kept_of contract s),
        not_below (expected_of s - kept_of contract s),
        split contract s,
        equal_itself (pos (cond (is_bid (expected_of s)) 1 0)),
        not_below (shortfall_of contract s),
        not_below points,
        counted,
        le-leb _ _ within,
      )

-- ---- what an accepted closing shows

module _ (state : State) (accepted : (close_of state).refusal ≡ 0) where
  untold_there : (n : ℕ) → test_of n (closing_tests state) ≡ false
  unfolding closing_refusal
  untold_there = untold (closing_tests state) tt (sym (close_refusal state) ∙ accepted)

  held : Sound state
  held = sound state (untold_there 9)

  content_untold : (n : ℕ) → test_of n (content_tests counts state.head state.marks) ≡ false
  unfolding content_refusal
  content_untold = untold (content_tests counts state.head state.marks) tt held.content

  all_points : state.points ≡ state.head.count
  all_points = omega (arith, held.room, ltb-false _ _ (untold_there 20))

  pub closing_allowed : is_contract state.head.contract ≡ true
  closing_allowed = not-false _ (content_untold 6)

  pub closing_counted : is_count counts state.points ≡ true
  closing_counted = rw all_points (not-false _ (content_untold 7))

  pub closing_within : length (slot_totals state) ≡ window_slots → nat_abs (sum_ℤ (slot_totals state)) ≤ window_slots * most_result * state.points
  closing_within six =
      let limit = most_result * state.points in
      let each = none_beyond limit (slot_totals state) (rw held.totals tt) in
      let sum : nat_abs (sum_ℤ (slot_totals state)) ≤ window_slots * limit = rw six at (sumℤ-below limit (slot_totals state) each) in
      omega (arith, sum)

  pub closing_figures : (close_of state).figures ≡ figures_of state.head.contract (slot_totals state) state.points
  closing_figures = ap (λ c. c.figures) (close_good state (sym (close_refusal state) ∙ accepted))

  pub closing_keeps : length (slot_totals state) ≡ window_slots → breaks_rule (words (close_of state).figures) ≡ false
  closing_keeps six = rw closing_figures (figures_keep state.head.contract (slot_totals state) state.points closing_allowed closing_counted (closing_within six))
