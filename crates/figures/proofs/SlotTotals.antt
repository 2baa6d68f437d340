-- Slot totals and results, slot by slot. Assumes nothing.
use mathlib.Core.Path.{◌≡◌, refl, sym, ap, ◌∙◌}
use mathlib.Core.List.{List, [], ◌∷◌}
use Prim.Native.Nat.{ℕ, zero, suc, ◌+◌, ◌^◌, ◌<◌}
use native.Mathlib.Nat.{not-suc-le-zero, le_of_suc-le-suc}
use native.Mathlib.Omega.{arith}
use lib.IntN.{ℤ, pos, nat_abs, ◌+ℤ◌}
use lib.ListN.{length, get_or}
use Rattle.numbers.specs.Lists.{run}
use mir.Syntax.{w64}
use Rattle.std.proofs.lemmas.Int.{ints}
use Rattle.integers.proofs.Machine.{back}
use Rattle.std.proofs.lemmas.List.{ext_get_or}
use Rattle.numbers.proofs.Filling.{run_at, run_length}
use Rattle.figures.specs.SlotTotals.{plus}

-- two numbers that the machine reads back, added
pub as_read : (x y : ℤ) → nat_abs x + nat_abs y < 2 ^ 63 → back w64 x +ℤ back w64 y ≡ x +ℤ y
as_read x y room = omega (arith, ints, room)

pub plus_at : (xs ys : List ℤ) (i : ℕ) → i < length xs → i < length ys → get_or (plus xs ys) i (pos 0) ≡ get_or xs i (pos 0) +ℤ get_or ys i (pos 0)
unfolding plus
plus_at [] ys i h k = absurd (not-suc-le-zero h)
plus_at (x ∷ xs) [] i h k = absurd (not-suc-le-zero k)
plus_at (x ∷ xs) (y ∷ ys) zero h k = refl
plus_at (x ∷ xs) (y ∷ ys) (suc i) h k = plus_at xs ys i (le_of_suc-le-suc h) (le_of_suc-le-suc k)

pub plus_length : (xs ys : List ℤ) → length xs ≡ length ys → length (plus xs ys) ≡ length xs
unfolding plus
plus_length [] ys e = refl
plus_length (x ∷ xs) [] e = absurd (omega arith)
plus_length (x ∷ xs) (y ∷ ys) e = ap suc (plus_length xs ys (omega arith))

pub plus_run : (xs ys : List ℤ) (n : ℕ) → length xs ≡ n → length ys ≡ n → run (λ i. get_or xs i (pos 0) +ℤ get_or ys i (pos 0)) 0 n ≡ plus xs ys
plus_run xs ys n e g = ext_get_or (pos 0) _ _ (run_length _ 0 n ∙ sym (plus_length xs ys (e ∙ sym g) ∙ e)) λ i below.
    let h : i < n = rw run_length at below in
    run_at _ n i (pos 0) h ∙ sym (plus_at xs ys i (rw e h) (rw g h))
