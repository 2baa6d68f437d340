-- `are_within` meets its contract. Assumes nothing.
use mathlib.Core.Bool.{Bool, true, ◌&&◌}
use mathlib.Core.List.{List}
use mathlib.Core.Path.{sym, ◌∙◌}
use Prim.Native.Nat.{ℕ}
use borrow.Author.Rules.{rules}
use lib.Dec.{leb}
use Rattle.std.proofs.lemmas.Iterator.{YieldsList-from_slice}
use Rattle.std.proofs.lemmas.Iterator.Consumers.{fold_from_yields_List}
use Rattle.numbers.specs.Words.{word32}
use Rattle.readings.specs.Readings.{most_reading}
use Rattle.readings.proofs.FourBytes.{each_within}
use Rattle.readings.proofs.are_within.Goals as goal

pub returns : goal.returns
returns c =
    let readings = c.args.readings.now in
    let h : Bool → List ℕ → Bool = λ (within : Bool) (reading : List ℕ). within && leb (word32 reading 0) most_reading in
    let all = fold_from_yields_List _ h true _ c.fold.ensures.ran (YieldsList-from_slice readings (cc)) (λ a x b q k. search rules) in
    λ within. (each_within readings true (sym all ∙ search rules)).1
