-- Arrays that are made by a function of the place (`array::from_fn`). Assumes nothing.
use mathlib.Core.Path.{◌≡◌, refl, sym, ◌∙◌, subst}
use mathlib.Core.List.{List}
use Prim.Native.Nat.{ℕ, zero, suc, ◌+◌, ◌<◌}
use native.Mathlib.Nat.{zero-add, add-zero, add-suc, suc-add}
use native.Mathlib.Numerals.{add-one}
use native.Mathlib.Omega.{arith}
use lib.ListN.{get_or}
use denote.Param.Members.{Called, Mut}
use Rattle.std.specs.Array.{IsFromFnResult, IsFromFnResultFrom}
use Rattle.std.proofs.lemmas.List.{ext_get_or}
use Rattle.numbers.specs.Lists.{run}
use Rattle.numbers.proofs.Filling.{run_length, run_from}

-- the closure's state may be any of which `Fixed` holds; a call from one gives the value of f at the number, and leaves such a state
module _ {F B : Type 0} (g : Mut F (ℕ × Unit {0}) B) (Fixed : F → Type 0) (f : ℕ → B) where
  abbrev pub Gives : ℕ → Type 0
  Gives n = (p : F) (i : ℕ) (y : B) (q : F) → Fixed p → i < n → Called g p (i, tt) y q → (y ≡ f i) × Fixed q

  made_at : (n m i k : ℕ) (p : F) (ys : List B) (d : B) → Gives n → Fixed p → i + m ≡ n → IsFromFnResultFrom g p ys i m → k < m → get_or ys (i + k) d ≡ f (i + k)
  made_at n zero i k p ys d gives fixed e each below = absurd (omega arith)
  made_at n (suc m) i zero p ys d gives fixed e (q, y, at, called, later) below =
      rw add-zero (at.1 d ∙ (gives p i y q fixed (omega arith) called).0)
  made_at n (suc m) i (suc k) p ys d gives fixed e (q, y, at, called, later) below =
      rw (add-suc, ← suc-add, ← add-one)
      (made_at n m (i + 1) k q ys d gives (gives p i y q fixed (omega arith) called).1 (omega arith) later (omega arith))

-- an array of n elements, each what f gives at its place, counted from k on
pub made : {F B : Type 0} (g : Mut F (ℕ × Unit {0}) B) (Fixed : F → Type 0) (f : ℕ → B) (k n : ℕ) (d : B) {p : F} {ys : List B}
    → Fixed p → Gives g Fixed (λ i. f (k + i)) n → IsFromFnResult g p ys n → ys ≡ run f k n
made g Fixed f k n d {p} {ys} fixed gives result =
    ext_get_or d ys (run f k n) (result.long ∙ sym (run_length f k n)) λ i below.
    let within : i < n = omega (arith, result.long) in
    simp (zero-add) at (made_at g Fixed (λ j. f (k + j)) n n 0 i p ys d gives fixed (zero-add n) result.each within) ∙ sym (run_from f k n i d within)

-- the same, where calls leave the closure as it was
pub made_same : {F B : Type 0} (g : Mut F (ℕ × Unit {0}) B) (f : ℕ → B) (k n : ℕ) (d : B) {p : F} {ys : List B}
    → ((i : ℕ) (y : B) (q : F) → i < n → Called g p (i, tt) y q → (y ≡ f (k + i)) × (q ≡ p)) → IsFromFnResult g p ys n → ys ≡ run f k n
made_same g f k n d {p} gives =
    made g (λ q. q ≡ p) f k n d refl λ q i y r same below called. gives i y r below (subst (λ s. Called g s (i, tt) y r) same called)
