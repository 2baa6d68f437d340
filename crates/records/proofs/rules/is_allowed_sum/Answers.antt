use Rattle.std.proofs.Common.{◌+ℤ◌, ap, ◌∙◌, refl, w64}
use mathlib.Core.Path.{ap₂}
use Rattle.integers.proofs.Machine.{told}
use Rattle.records.specs.Rules.{is_allowed}
use Rattle.records.proofs.Keeping.{allowed_sum}
use Rattle.records.proofs.rules.is_allowed_sum.Goals as goal

pub returns : goal.returns
returns c =
    let sum = ap₂ (λ x y. x +ℤ y) (told w64 {y = c.args.a} c.ranges.a.sfits refl) (told w64 {y = c.args.b} c.ranges.b.sfits refl) in
    allowed_sum _ c.checked_add.result c.is_some_and.result c.checked_add.ensures c.is_some_and.ensures ∙ ap is_allowed sum
