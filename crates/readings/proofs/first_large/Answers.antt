-- `first_large` meets its contract. Assumes nothing.
use mathlib.Core.Path.{refl}
use Prim.Native.Nat.{ℕ, ◌/◌}
use native.Mathlib.Omega.{arith}
use borrow.Author.Tests.{le-ltb}
use lib.ListN.{length}
use Rattle.readings.specs.Readings.{reading_length, first_large}
use Rattle.readings.proofs.FourBytes.{none_of_small}
use Rattle.readings.proofs.first_large.Goals as goal

pub returns-then-are_small : goal.returns-then-are_small
returns-then-are_small c =
    let readings = c.args.readings.now in
    let n : ℕ = length readings / reading_length in
    let none = none_of_small n readings (λ i. omega (arith, c.type_inv.readings i)) (rw c.as_chunks.ensures.front at (c.if-are_small.ensures refl)) in
    simp (le-ltb (first_large readings n) n (omega (arith, none)))
