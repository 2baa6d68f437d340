-- The walk over flags: what holds of the days in hand and the places not yet reached. Assumes nothing.
use mathlib.Core.Path.{◌≡◌, refl, sym, ap, ◌∙◌}
use mathlib.Core.Bool.{Bool, true, false}
use mathlib.Core.List.{List, [], ◌∷◌, ◌++◌, map, map-append, append-nil}
use Prim.Native.Nat.{ℕ, ◌+◌, ◌-◌, ◌<◌, ◌≤◌}
use native.Mathlib.Nat.{le_refl}
use native.Mathlib.Omega.{arith}
use lib.ListN.{length, get_or, length-append, length-map}
use lib.Seq.{append_snoc}
use Rattle.calendar.specs.Eligible.{of_day}
use Rattle.choosing.specs.Choosing.{round_days, round, standing}
use Rattle.choosing.specs.Days.{days_from, Rising, none, next, InHand}
use Rattle.choosing.specs.declared.candidates.Candidate.{Candidate}
use Rattle.choosing.proofs.InHand.{backs, sums, as_many}
use Rattle.choosing.proofs.Rising.{rising_farther, rising_append, rising_filter}
use Rattle.choosing.proofs.Flags.{further, further_next, further_end}
use Rattle.choosing.proofs.Rounds.{round_length, filter_all, days_run_out, none_dropped, some_dropped}

-- at place k stands day k + 1
pub at_place : (windows : List ℕ) (k : ℕ) → of_day windows (k + 1) ≡ get_or windows k 0
at_place windows k = ap (λ i. get_or windows i 0) (let e : k + 1 - 1 ≡ k = omega arith in e)

-- Before place k: the candidates are the days in hand. Those that stand in the end are those that stand of the days in hand and the
-- further ones.
pub record Here (windows : List ℕ) (eligible : List Bool) (hand : List Candidate) (k : ℕ) : Type 0 where
  pub few : length hand ≤ round_days
  pub of : sums hand ≡ map (of_day windows) (backs hand)
  pub rising : Rising 0 k (backs hand)
  pub same : standing (of_day windows) (days_from 1 eligible) ≡ standing (of_day windows) (backs hand ++ further eligible k)

pub begin : (windows : List ℕ) (eligible : List Bool) (hand : List Candidate) → hand ≡ [] → Here windows eligible hand 0
begin windows eligible hand e = rw e (record { few = omega arith; of = refl; rising = none (le_refl 0); same = refl })

module _ {windows : List ℕ} {eligible : List Bool} {hand : List Candidate} {k : ℕ} (here : Here windows eligible hand k) where
  -- an eligible day
  pub taken : (more : List Candidate) (day : Candidate) → more ≡ hand ++ day ∷ [] → day.back ≡ k + 1 → day.sum ≡ get_or windows k 0
      → k < length eligible → length hand < round_days → get_or eligible k false ≡ true → Here windows eligible more (k + 1)
  taken more day added back sum h n e =
      let days : backs more ≡ backs hand ++ (k + 1) ∷ [] = ap backs added ∙ rw (map-append, back) in
      record {
        few = omega (arith, simp length-append at (ap (length {A = Candidate}) added));
        of = rw (days, added, map-append, map-append, sum, at_place windows k) (ap (λ xs. xs ++ get_or windows k 0 ∷ []) here.of);
        rising = rw days (rising_append here.rising (next (let l : k < k + 1 = omega arith in l) (none (le_refl (k + 1)))));
        same = rw (days, append_snoc) (rw (further_next eligible k h, e) at here.same);
      }

  -- a day that is not
  pub passed : k < length eligible → get_or eligible k false ≡ false → Here windows eligible hand (k + 1)
  passed h e = record {
    few = here.few;
    of = here.of;
    rising = rising_farther (let l : k ≤ k + 1 = omega arith in l) here.rising;
    same = rw (further_next eligible k h, e) at here.same;
  }

  -- the days run out
  pub ran_out : length eligible ≤ k → length hand < round_days → InHand (of_day windows) (standing (of_day windows) (days_from 1 eligible)) hand
  ran_out h n =
      let few : length (backs hand) < 5 = rw length-map (omega arith) in
      let stand = (rw (further_end eligible k h, append-nil) at here.same) ∙ days_run_out (of_day windows) (backs hand) few in
      record { backs = sym stand; sums = rw stand here.of }

  -- what a round leaves of five
  module _ {left : List Candidate} (full : length hand ≡ round_days) (kept : InHand (of_day windows) (round (of_day windows) (backs hand)) left) where
    five : length (backs hand) ≡ 5
    five = rw length-map full

    many : length left ≡ length (round (of_day windows) (backs hand))
    many = as_many kept

    pub stopped : length left ≡ round_days → InHand (of_day windows) (standing (of_day windows) (days_from 1 eligible)) left
    stopped e =
        let stand = here.same ∙ none_dropped (of_day windows) (backs hand) (further eligible k) five (sym many ∙ e) in
        let all : round (of_day windows) (backs hand) ≡ backs hand = filter_all _ (backs hand) (omega (arith, five, many)) in
        rw stand (rw all at kept)

    pub went_on : (length left ≡ round_days → ⊥) → Here windows eligible left k
    went_on n = record {
      few = omega (arith, many, five, round_length (of_day windows) (backs hand));
      of = kept.sums ∙ rw kept.backs;
      rising = rw kept.backs (rising_filter _ here.rising);
      same = rw kept.backs
          (here.same ∙ some_dropped (of_day windows) (backs hand) (further eligible k) five (λ e. n (many ∙ e)));
    }
