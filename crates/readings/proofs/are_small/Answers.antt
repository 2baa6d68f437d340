-- `are_small` meets its contract. Assumes nothing.
use mathlib.Core.List.{List}
use Prim.Native.Nat.{ℕ, ◌%◌, ◌<◌}
use borrow.Author.Rules.{rules}
use lib.Bits.{bit_or}
use borrow.Author.Tests.{ltb-true}
use mir.Syntax.{w32}
use Rattle.std.specs.Int.{from_le_bytes}
use Rattle.std.proofs.lemmas.Iterator.{YieldsList-from_slice}
use Rattle.std.proofs.lemmas.Iterator.Consumers.{fold_from_yields_List}
use Rattle.readings.proofs.FourBytes.{each_small}
use Rattle.readings.proofs.are_small.Goals as goal

pub returns : goal.returns
returns c =
    let readings = c.args.readings.now in
    let h = λ (over : ℕ) (reading : List ℕ). bit_or over (from_le_bytes w32 reading) in
    let laid = fold_from_yields_List _ h 0 _ c.fold-all.ensures.ran (YieldsList-from_slice readings (cc)) (λ a x b q k. search rules) in
    λ small.
    let low : c.fold-all.result % 256 < 32 = ltb-true _ _ small in
    (each_small readings 0 (rw laid at low)).1
