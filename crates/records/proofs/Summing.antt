-- One record more among the sums, as the machine adds it. Assumes nothing.
use mathlib.Core.Path.{◌≡◌}
use Prim.Native.Nat.{◌+◌, ◌^◌, ◌<◌}
use native.Mathlib.Omega.{arith}
use lib.IntN.{ℤ, nat_abs, ◌+ℤ◌}
use mir.Syntax.{w64}
use Rattle.std.proofs.lemmas.Int.{ints}
use Rattle.integers.proofs.Machine.{back}

pub summed : (a b : ℤ) → nat_abs a + nat_abs b < 2 ^ 63 → back w64 (back w64 a +ℤ back w64 b) ≡ a +ℤ b
summed a b room = omega (arith, ints, room)
