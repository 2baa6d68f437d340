-- Days return, one turn after the other: what the days in hand come to stays. Assumes nothing.
use mathlib.Core.Path.{◌≡◌, refl, sym, ap, ◌∙◌}
use mathlib.Core.Bool.{not}
use mathlib.Core.List.{List, map}
use mathlib.Core.Logic.{◌⊎◌, ⊎_elim}
use Prim.Native.Nat.{ℕ, suc, ◌-◌, ◌<◌, ◌≤◌}
use native.Mathlib.Omega.{arith}
use lib.Dec.{eqb}
use lib.ListN.{length, get_or, drop, length-map}
use Rattle.std.specs.List as list
use Rattle.numbers.specs.Slots.{days_used}
use Rattle.choosing.specs.Choosing.{highest, with_day, returned}
use Rattle.choosing.specs.Days.{InHand}
use Rattle.choosing.specs.declared.candidates.Candidate.{Candidate}
use Rattle.choosing.proofs.InHand.{backs, sums, as_many, some_in_hand}
use Rattle.choosing.proofs.Returning.{with_day_length, return_one, none_left, none_lacks}

-- each candidate has its day's window sum
abbrev Own : (ℕ → ℕ) → List Candidate → Type 0
Own w candidates = sums candidates ≡ map w (backs candidates)

-- what the days in hand come to
abbrev to_be : (ℕ → ℕ) → List Candidate → List Candidate → List ℕ
to_be w days gone = returned w (days_used - length days) (backs gone) (backs days)

-- that is what the first in hand come to
pub record Given (first all days gone : List Candidate) : Type 0 where
  pub same : (w : ℕ → ℕ) → Own w first → Own w all → Own w days × (Own w gone × (to_be w first all ≡ to_be w days gone))

pub begin : (first all : List Candidate) → Given first all first all
begin first all = record { same = λ w e f. (e, (f, refl)) }

module _ {first all days gone : List Candidate} (given : Given first all days gone) where
  -- one returns
  module _ {more fewer : List Candidate} (high : Candidate) (few : length days < 4) (some : 0 < length gone)
      (picked : (w : ℕ → ℕ) (some : List ℕ) → InHand w some gone → (high.back ≡ highest w (get_or some 0 0) (drop 1 some)) × (high.sum ≡ w high.back))
      (kept : fewer ≡ list.filter (λ day. not (eqb day.back high.back)) gone)
      (put : (w : ℕ → ℕ) (some : List ℕ) → InHand w some days → high.sum ≡ w high.back → InHand w (with_day high.back some) more) where
    next : (w : ℕ → ℕ) → Own w first → Own w all → Own w more × (Own w fewer × (to_be w first all ≡ to_be w more fewer))
    next w e f =
        let (own_days, (own_gone, same)) = given.same w e f in
        let (is_high, own) = picked w (backs gone) (record { backs = refl; sums = own_gone }) in
        let left = some_in_hand w (λ k. not (eqb k high.back)) (λ day. not (eqb day.back high.back)) (λ day e. refl) gone own_gone in
        let put_in = put w (backs days) (record { backs = refl; sums = own_days }) own in
        let many : length more ≡ suc (length days)
        = as_many put_in ∙ with_day_length high.back (backs days) ∙ ap suc (length-map days (λ (day : Candidate). day.back))
        in
        let lack : days_used - length days ≡ suc (days_used - length more) = omega (arith, many) in
        let some_back : 0 < length (backs gone) = rw length-map some in
        let one = return_one w (days_used - length more) (backs gone) (backs days) some_back in (
          put_in.sums ∙ rw put_in.backs refl,
          (
            rw kept (left.sums ∙ rw left.backs refl),
            same ∙ rw (lack, one, ← is_high, kept, left.backs, put_in.backs) refl,
          ),
        )

    pub gives : Given first all more fewer
    gives = record { same = next }

  -- four stand, or none is left to return
  pub given_all : (4 ≤ length days) ⊎ (length gone ≡ 0) → (w : ℕ → ℕ) (some others : List ℕ) → InHand w some first → InHand w others all
      → InHand w (returned w (days_used - length some) others some) days
  given_all end w some others hand in_all =
      let (own_days, (own_gone, same)) = given.same w (hand.sums ∙ rw hand.backs refl) (in_all.sums ∙ rw in_all.backs refl) in
      let stand : to_be w days gone ≡ backs days
      = ⊎_elim (λ h. let none : days_used - length days ≡ 0 = omega arith in rw none (none_lacks w (backs gone) (backs days)))
      (λ h. none_left w (days_used - length days) (backs gone) (backs days) (rw length-map h)) end
      in
      let all_are : returned w (days_used - length some) others some ≡ backs days = rw (← hand.backs, ← in_all.backs, length-map) (same ∙ stand) in
      record { backs = sym all_are; sums = rw all_are own_days }
