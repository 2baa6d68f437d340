-- Sums of signed numbers: of lists one after the other, and slot by slot. Assumes nothing.
use mathlib.Core.Path.{◌≡◌, refl, sym, ◌∙◌, ap}
use mathlib.Core.List.{List, [], ◌∷◌, ◌++◌, map}
use native.Mathlib.Omega.{arith}
use lib.IntN.{ℤ, ◌+ℤ◌, +ℤ_idl, +ℤ_assoc}
use lib.ListN.{length}
use Rattle.integers.specs.Integers.{sum_ℤ}
use Rattle.integers.proofs.Differences.{by⊖, ⊖s}
use Rattle.figures.specs.SlotTotals.{plus}

pub sum_append : {A : Type 0} (f : A → ℤ) (xs ys : List A) → sum_ℤ (map f (xs ++ ys)) ≡ sum_ℤ (map f xs) +ℤ sum_ℤ (map f ys)
unfolding sum_ℤ
sum_append f [] ys = sym (+ℤ_idl _)
sum_append f (x ∷ xs) ys = ap (f x +ℤ◌) (sum_append f xs ys) ∙ sym (+ℤ_assoc (f x) (sum_ℤ (map f xs)) (sum_ℤ (map f ys)))

across : (a b c d : ℤ) → (a +ℤ b) +ℤ (c +ℤ d) ≡ (a +ℤ c) +ℤ (b +ℤ d)
across = by⊖ _ λ a a'. by⊖ _ λ b b'. by⊖ _ λ c c'. by⊖ _ λ d d'. simp ⊖s (omega arith)

pub sum_plus : (xs ys : List ℤ) → length xs ≡ length ys → sum_ℤ (plus xs ys) ≡ sum_ℤ xs +ℤ sum_ℤ ys
unfolding sum_ℤ plus
sum_plus [] [] e = refl
sum_plus [] (y ∷ ys) e = absurd (omega arith)
sum_plus (x ∷ xs) [] e = absurd (omega arith)
sum_plus (x ∷ xs) (y ∷ ys) e = ap ((x +ℤ y) +ℤ◌) (sum_plus xs ys (omega arith)) ∙ across x y (sum_ℤ xs) (sum_ℤ ys)
