-- The eligible days that are not in hand, place by place. Assumes nothing.
use mathlib.Core.Path.{◌≡◌, refl, sym, ap, ◌∙◌}
use mathlib.Core.Bool.{Bool, true, false, not}
use mathlib.Core.List.{List, [], ◌∷◌, ◌++◌, map, map-append, append-nil}
use Prim.Native.Nat.{ℕ, ◌+◌, ◌<◌, ◌≤◌}
use native.Mathlib.Omega.{arith}
use lib.Dec.{eqb}
use lib.ListN.{length, get_or, length-append}
use lib.Seq.{append_snoc}
use Rattle.numbers.specs.Lists.{filter, any}
use Rattle.calendar.specs.Eligible.{of_day}
use Rattle.choosing.specs.Days.{days_from, not_among, InHand}
use Rattle.choosing.specs.declared.candidates.Candidate.{Candidate}
use Rattle.choosing.proofs.InHand.{backs, sums}
use Rattle.choosing.proofs.Flags.{further, further_next, further_end}
use Rattle.choosing.proofs.Walking.{at_place}

-- a day is not in hand
abbrev pub out : List Candidate → ℕ → Bool
out hand k = not (any (eqb k) (backs hand))

-- Before place k: the candidates are those of the eligible days up to there.
pub record UpTo (windows : List ℕ) (eligible : List Bool) (hand gone : List Candidate) (k : ℕ) : Type 0 where
  pub few : length gone ≤ k
  pub of : sums gone ≡ map (of_day windows) (backs gone)
  pub same : filter (out hand) (days_from 1 eligible) ≡ backs gone ++ filter (out hand) (further eligible k)

module _ {windows : List ℕ} {eligible : List Bool} {hand gone : List Candidate} {k : ℕ} (up : UpTo windows eligible hand gone k) where
  -- an eligible day that is not in hand
  pub left : (more : List Candidate) (day : Candidate) → more ≡ gone ++ day ∷ [] → day.back ≡ k + 1 → day.sum ≡ get_or windows k 0
      → k < length eligible → get_or eligible k false ≡ true → any (eqb (k + 1)) (backs hand) ≡ false → UpTo windows eligible hand more (k + 1)
  unfolding filter
  left more day added back sum h e n =
      let days : backs more ≡ backs gone ++ (k + 1) ∷ [] = ap backs added ∙ rw (map-append, back) refl in
      record {
        few = omega (arith, up.few, simp length-append at (ap (length {A = Candidate}) added));
        of = rw (days, added, map-append, map-append, sum, at_place windows k) (ap (λ xs. xs ++ get_or windows k 0 ∷ []) up.of);
        same = rw (days, append_snoc) (rw (further_next eligible k h, e, n) at up.same);
      }

  -- one that is in hand
  pub stays : k < length eligible → get_or eligible k false ≡ true → any (eqb (k + 1)) (backs hand) ≡ true → UpTo windows eligible hand gone (k + 1)
  unfolding filter
  stays h e n = record {
    few = omega (arith, up.few);
    of = up.of;
    same = rw (further_next eligible k h, e, n) at up.same;
  }

  -- a day that is not eligible
  pub passes : k < length eligible → get_or eligible k false ≡ false → UpTo windows eligible hand gone (k + 1)
  passes h e = record {
    few = omega (arith, up.few);
    of = up.of;
    same = rw (further_next eligible k h, e) at up.same;
  }

  pub all_left : length eligible ≤ k → {stand : List ℕ} → InHand (of_day windows) stand hand
      → InHand (of_day windows) (not_among stand (days_from 1 eligible)) gone
  unfolding filter
  all_left h in_hand =
      let days : backs gone ≡ not_among _ (days_from 1 eligible)
      = sym (rw (further_end eligible k h, append-nil) at up.same) ∙ ap (λ days. not_among days (days_from 1 eligible)) in_hand.backs
      in
      record { backs = days; sums = up.of ∙ ap (map (of_day windows)) days }
