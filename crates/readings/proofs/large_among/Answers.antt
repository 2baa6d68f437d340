-- `large_among` meets its contract. Assumes nothing.
use mathlib.Core.Path.{refl}
use Prim.Native.Nat.{ℕ, ◌/◌}
use native.Mathlib.Omega.{arith}
use borrow.Author.Rules.{rules}
use borrow.Author.Tests.{tests, le-ltb}
use lib.ListN.{length}
use Rattle.std.proofs.lemmas.Iterator.{YieldsList-from_slice}
use Rattle.std.proofs.lemmas.Iterator.Search.{position_from_yields_List}
use Rattle.readings.specs.Readings.{reading_length, first_large}
use Rattle.readings.proofs.FourBytes.{is_large, chunks_length, counted, none_of_small, none_of_within}
use Rattle.readings.proofs.large_among.Goals as goal

pub returns-then-are_small : goal.returns-then-are_small
returns-then-are_small c =
    let readings = c.args.readings.now in
    let n : ℕ = length readings / reading_length in
    let none = none_of_small n readings (λ i. omega (arith, c.type_inv.readings i)) (rw c.as_chunks.ensures.front at (c.if-are_small.ensures refl)) in
    simp (le-ltb (first_large readings n) n (omega (arith, none)))

pub returns-then-are_within : goal.returns-then-are_within
returns-then-are_within c =
    let readings = c.args.readings.now in
    let n : ℕ = length readings / reading_length in
    let none = none_of_within n readings (rw c.as_chunks.ensures.front at (c.if-are_within.ensures refl)) in
    simp (le-ltb (first_large readings n) n (omega (arith, none)))

pub returns : goal.returns
returns c =
    let at = position_from_yields_List is_large _ _ c.position.result c.position.ensures.ran (YieldsList-from_slice c.as_chunks.result.0.now (cc)) (λ x b q k. search (rules, tests)) in
    rw (c.as_chunks.ensures.front, chunks_length, counted) at at
