-- The closing figures as the code works them out. Assumes nothing.
use mathlib.Core.Path.{◌≡◌}
use mathlib.Core.Bool.{true, false}
use Prim.Native.Nat.{ℕ, ◌+◌, ◌-◌, ◌^◌, ◌<◌}
use native.Mathlib.Omega.{arith}
use lib.IntN.{ℤ, pos, negsuc, nat_abs}
use lib.Signed.{mag, lt_z}
use borrow.Author.Tests.{ltb-true}
use Rattle.integers.specs.Integers.{floor_div, or_zero}
use Rattle.integers.proofs.Differences.{⊖s}
use Rattle.figures.specs.Figures.{shortfall_of}

-- below zero the shortfall exceeds the contract
pub shortfall_below : (contract : ℕ) (settled : ℤ) → lt_z settled (pos 0) ≡ true → contract + nat_abs settled ≡ shortfall_of contract settled
shortfall_below contract (pos n) t = absurd (omega (arith, ltb-true n 0 t))
shortfall_below contract (negsuc n) t = omega arith

pub shortfall_above : (contract : ℕ) (settled : ℤ) → lt_z settled (pos 0) ≡ false → contract - or_zero settled ≡ shortfall_of contract settled
shortfall_above contract (pos n) t = simp ⊖s (omega arith)
shortfall_above contract (negsuc n) t = absurd (let e : ◌≡◌ {A = ℕ} 0 1 = cc in omega arith)

-- a settled figure is far from the ends of its type
pub settled_fits : (total : ℤ) → mag total < 2 ^ 63 → nat_abs (floor_div total 3_000) < 9000000000000000000
settled_fits (pos n) h = omega arith
settled_fits (negsuc n) h = omega arith
