-- The choice as it was before CR 5, for one law alone: a consumer that was accepted then has the same four days. Assumes nothing.
use mathlib.Core.Path.{◌≡◌, refl, sym, ap, ◌∙◌}
use mathlib.Core.Bool.{Bool, true, false, cond, not}
use mathlib.Core.List.{List, [], ◌∷◌, ◌++◌, map}
use Prim.Native.Nat.{ℕ, zero, suc, ◌*◌, ◌<◌, ◌≤◌}
use native.Mathlib.Omega.{arith}
use lib.Dec.{leb, ltb, eqb}
use lib.ListN.{length, take, drop}
use borrow.Author.Tests.{ltb-true, ltb-false}
use Rattle.numbers.specs.Lists.{sum, filter}
use Rattle.choosing.specs.Choosing.{walk, standing, lowest, picked, used, chosen}
use Rattle.choosing.proofs.Lowest.{used_fewer}
use Rattle.choosing.proofs.DaysReturn.{standing_are_used}

round_before : (ℕ → ℕ) → List ℕ → List ℕ
round_before w five = let all = sum (map w five) in filter (λ k. not (ltb (w k * 20) all)) five

walk_before : (ℕ → ℕ) → ℕ → List ℕ → List ℕ
walk_before w zero days = days
walk_before w (suc n) days =
    let left = round_before w (take 5 days) in
    let further = walk_before w n (left ++ drop 5 days) in
    cond (ltb (length days) 5) days (cond (eqb (length left) 5) (take 5 days) further)

lowest_before : (ℕ → ℕ) → ℕ → List ℕ → ℕ
lowest_before w low [] = low
lowest_before w low (k ∷ days) = lowest_before w (cond (leb (w k) (w low)) k low) days

-- 'Five standing: the lowest window sum goes. .. Four standing: all four are used. Fewer: refusal 18.'
used_before : (ℕ → ℕ) → List ℕ → List ℕ
used_before w [] = []
used_before w (k ∷ days) =
    let fewer = filter (λ other. not (eqb other (lowest_before w k days))) (k ∷ days) in
    cond (eqb (length (k ∷ days)) 5) fewer (k ∷ days)

pub chosen_before : (ℕ → ℕ) → List ℕ → List ℕ
chosen_before w eligible = used_before w (walk_before w (length eligible) eligible)

-- ---- what stays of it

walk_same : (w : ℕ → ℕ) (n : ℕ) (days : List ℕ) → walk_before w n days ≡ walk w n days
unfolding walk walk_before round_before
walk_same w zero days = refl
walk_same w (suc n) days =
    let five = take 5 days in
    let left = round_before w five in
    ap (λ further. cond (ltb (length days) 5) days (cond (eqb (length left) 5) five further)) (walk_same w n (left ++ drop 5 days))

lowest_same : (w : ℕ → ℕ) (low : ℕ) (days : List ℕ) → lowest_before w low days ≡ lowest w low days
unfolding picked lowest_before
lowest_same w low [] = refl
lowest_same w low (k ∷ days) = lowest_same w (cond (leb (w k) (w low)) k low) days

used_same : (w : ℕ → ℕ) (days : List ℕ) → used_before w days ≡ used w days
unfolding used used_before
used_same w [] = refl
used_same w (k ∷ days) = rw (lowest_same w k days) refl

before_same : (w : ℕ → ℕ) (eligible : List ℕ) → chosen_before w eligible ≡ used w (standing w eligible)
unfolding chosen_before
before_same w eligible = rw (walk_same w (length eligible) eligible) (used_same w (standing w eligible))

pub days_kept : (w : ℕ → ℕ) (eligible : List ℕ) → 4 ≤ length (chosen_before w eligible) → chosen w eligible ≡ chosen_before w eligible
days_kept w eligible four = go (ltb (length (standing w eligible)) 4) refl
  where
    go : (t : Bool) → ltb (length (standing w eligible)) 4 ≡ t → chosen w eligible ≡ chosen_before w eligible
    go true few =
        let stand : length (standing w eligible) < 4 = ltb-true _ _ few in
        let same = ap (length {A = ℕ}) (before_same w eligible ∙ used_fewer w (standing w eligible) (λ five. omega (arith, five))) in
        absurd (omega (arith, same))
    go false enough = standing_are_used w eligible (ltb-false _ _ enough) ∙ sym (before_same w eligible)
