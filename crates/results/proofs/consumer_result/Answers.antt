use mathlib.Core.Path.{ap, ◌∙◌}
use Prim.Native.Nat.{◌*◌, ◌-◌}
use lib.IntN.{ℤ}
use Rattle.integers.specs.Integers.{floor_div}
use Rattle.results.proofs.SlotResults.{scaled}
use mir.Facts.{to_z-of_z}
use mir.Syntax.{w64}
use borrow.Author.Rules.{sfits_of}
use Rattle.results.proofs.consumer_result.Goals as goal

pub returns : goal.returns
returns c =
    let floor = rw c.from-2.ensures at c.floor_div.ensures in
    to_z-of_z {w = w64} (sfits_of c.floor_div.type_inv)
    ∙ floor
    ∙ ap (λ (z : ℤ). floor_div z (24 * (10_000 - c.args.loss)))
    (to_z-of_z {w = w64} (sfits_of c.minus-above.type_inv) ∙ c.minus-above.ensures ∙ rw c.from.ensures (scaled c.args.base c.args.used))
