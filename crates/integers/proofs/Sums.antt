-- Sums of signed numbers, from a place on. Assumes nothing.
use mathlib.Core.List.{List, [], ◌∷◌}
use mathlib.Core.Path.{◌≡◌, sym}
use Prim.Native.Nat.{ℕ, suc, ◌+◌, ◌*◌, ◌<◌, ◌≤◌}
use native.Mathlib.Nat.{suc-mul}
use native.Mathlib.Numerals.{add-one}
use native.Mathlib.Omega.{arith}
use lib.IntN.{ℤ, pos, nat_abs, ◌+ℤ◌, +ℤ_assoc, +ℤ_idr}
use lib.ListN.{length, get_or, drop, drop_of_length-le}
use lib.Seq.{drop-cons}
use Rattle.integers.specs.Integers.{sum_ℤ}
use Rattle.integers.proofs.Machine.{sum_abs}

module _ (zs : List ℤ) (i : ℕ) (t : ℤ) where
  pub sumℤ-next : i < length zs → t +ℤ sum_ℤ (drop i zs) ≡ t +ℤ get_or zs i (pos 0) +ℤ sum_ℤ (drop (i + 1) zs)
  unfolding sum_ℤ
  sumℤ-next h = rw (add-one, drop-cons zs i (pos 0)) (sym (+ℤ_assoc t (get_or zs i (pos 0)) (sum_ℤ (drop (suc i) zs))))

  pub sumℤ-end : length zs ≤ i → t +ℤ sum_ℤ (drop i zs) ≡ t
  unfolding sum_ℤ
  sumℤ-end h = rw (drop_of_length-le zs h) (+ℤ_idr t)

-- a sum of bounded numbers is bounded
pub sumℤ-below : (b : ℕ) (zs : List ℤ) → ((i : ℕ) → nat_abs (get_or zs i (pos 0)) ≤ b) → nat_abs (sum_ℤ zs) ≤ length zs * b
unfolding sum_ℤ
sumℤ-below b [] h = omega arith
sumℤ-below b (z ∷ zs) h = omega (arith, suc-mul (length zs) b, sum_abs z (sum_ℤ zs), h 0, sumℤ-below b zs λ i. h (suc i))
