-- The invariant: the total is that of the numbers so far, and small enough for one more.
use mathlib.Core.Path.{◌≡◌}
use Prim.Native.Nat.{◌≤◌, ◌*◌}
use lib.IntN.{nat_abs, ◌+ℤ◌}
use lib.ListN.{drop}
use Rattle.integers.specs.Integers.{sum_ℤ, most_summand}
use Rattle.integers.proofs.total_of.Given as goal

abbrev pub invariant-loop-slot : goal.invariant-loop-slot
invariant-loop-slot l =
    (nat_abs l.total ≤ l.slot-index * most_summand) × (sum_ℤ l.slot-items ≡ l.total +ℤ sum_ℤ (drop l.slot-index l.slot-items))
