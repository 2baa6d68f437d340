-- What an accepted opening shows. Assumes nothing.
use mathlib.Core.Path.{◌≡◌, refl}
use mathlib.Core.Bool.{Bool, false, not, ◌&&◌}
use mathlib.Core.List.{List}
use Prim.Native.Nat.{ℕ, ◌≤◌}
use lib.Dec.{T, leb, ltb, eqb}
use lib.ListN.{length, get_or}
use mir.Facts.{and_yes, leb_yes, eqb_yes}
use borrow.Author.Tests.{ltb-false, not-false}
use Rattle.numbers.proofs.Filling.{any_none}
use Rattle.numbers.proofs.Refusals.{test_of, untold, both_accepted}
use Rattle.heads.specs.Limits.{earliest_slot, latest_slot, most_loss, least_points, most_points}
use Rattle.heads.specs.Heads.{head_length, calendar_length, head_of, counts, content_tests, content_refusal, lengths_row, opening_tests, opening_refusal}
use Rattle.heads.specs.declared.Head.{Head}

-- a row's test, which tells what is wrong, as a fact
pub passed : (test : Bool) → not test ≡ false → T test
passed test e = rw (not-false test e) tt

pub both : (a b : Bool) → not (a && b) ≡ false → T a × T b
both a b e = and_yes a b (passed (a && b) e)

pub record Opens (h : Head) : Type 0 where
  pub first_slot : earliest_slot ≤ h.slot
  pub last_slot : h.slot ≤ latest_slot
  pub losses : (i : ℕ) → get_or h.losses i 0 ≤ most_loss
  pub most_points_lem : h.count ≤ most_points

pub opens : (h : Head) (marks : List ℕ) → content_refusal h marks ≡ 0 → Opens h
unfolding content_refusal
opens h marks e =
    let c = untold (content_tests counts h marks) tt e in
    let slots = both (leb earliest_slot h.slot) (leb h.slot latest_slot) (c 4) in
    let points = both (leb least_points h.count) (leb h.count most_points) (c 7) in
    record {
      first_slot = leb_yes slots.0;
      last_slot = leb_yes slots.1;
      losses = λ i. ltb-false _ _ (any_none (λ loss. ltb most_loss loss) 0 refl h.losses (c 5) i);
      most_points_lem = leb_yes points.1;
    }

module _ (head calendar : List ℕ) (accepted : opening_refusal head calendar ≡ 0) where
  opening_untold : (n : ℕ) → test_of n (opening_tests head calendar) ≡ false
  unfolding opening_refusal
  opening_untold = untold (opening_tests head calendar) tt accepted

  pub opening_lengths : (length head ≡ head_length) × (length calendar ≡ calendar_length)
  opening_lengths =
      let t = both (eqb (length head) head_length) (eqb (length calendar) calendar_length) (opening_untold 1) in
      (eqb_yes t.0, eqb_yes t.1)

  pub opening_content : content_refusal (head_of head) calendar ≡ 0
  unfolding opening_refusal content_refusal
  opening_content =
      (both_accepted (lengths_row head calendar) (content_tests counts (head_of head) calendar) tt accepted).1
