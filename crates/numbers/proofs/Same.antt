-- `same` is equality. Assumes nothing.
use mathlib.Core.Bool.{Bool, true, false, and-eq-true_iff, true≢false}
use mathlib.Core.List.{List, [], ◌∷◌}
use mathlib.Core.Logic.{◌↔◌}
use mathlib.Core.Path.{◌≡◌, refl, sym, ap, ap₂, ◌∙◌}
use Prim.Native.Nat.{ℕ}
use lib.Dec.{eqb}
use borrow.Author.Tests.{eq-eqb, eqb-true}
use Rattle.std.proofs.lemmas.Slice.Eq.{bytes_eq-Decides}
use Rattle.std.specs.Cmp.Lexicographic.{pointwise}
use Rattle.numbers.specs.Lists.{same}

-- as the library compares slices
pub pointwise_same : (xs ys : List ℕ) → pointwise eqb xs ys ≡ same xs ys
unfolding same
pointwise_same [] [] = refl
pointwise_same [] (y ∷ ys) = refl
pointwise_same (x ∷ xs) [] = refl
pointwise_same (x ∷ xs) (y ∷ ys) = rw (pointwise_same xs ys)

pub same_iff : (xs ys : List ℕ) → (same xs ys ≡ true) ↔ (xs ≡ ys)
same_iff xs ys = rw (← pointwise_same xs ys) (bytes_eq-Decides xs ys)

-- ---- both ways, one by one

pub same_refl : (xs : List ℕ) → same xs xs ≡ true
unfolding same
same_refl [] = refl
same_refl (x ∷ xs) = simp (eq-eqb x x refl) (same_refl xs)

pub same_is : (xs ys : List ℕ) → same xs ys ≡ true → xs ≡ ys
unfolding same
same_is [] [] e = refl
same_is [] (y ∷ ys) e = absurd (true≢false (sym e))
same_is (x ∷ xs) [] e = absurd (true≢false (sym e))
same_is (x ∷ xs) (y ∷ ys) e =
    let p = (and-eq-true_iff (eqb x y) (same xs ys)).0 e in
    ap₂ (λ (z : ℕ) zs. z ∷ zs) (eqb-true x y p.0) (same_is xs ys p.1)

module _ (xs ys : List ℕ) where
  pub is_same : xs ≡ ys → same xs ys ≡ true
  is_same e = ap (same xs) (sym e) ∙ same_refl xs

  pub not_same : (xs ≡ ys → ⊥) → same xs ys ≡ false
  not_same n = go (same xs ys) refl
    where
      go : (t : Bool) → same xs ys ≡ t → same xs ys ≡ false
      go true e = absurd (n (same_is xs ys e))
      go false e = e
