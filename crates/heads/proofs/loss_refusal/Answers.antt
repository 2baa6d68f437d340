use mathlib.Core.Path.{sym, ◌∙◌}
use lib.Dec.{ltb}
use Rattle.std.proofs.Common.{rules, tests}
use Rattle.std.proofs.lemmas.Iterator.{YieldsList-from_slice}
use Rattle.std.proofs.lemmas.Iterator.Search.{any_from_yields_List}
use Rattle.numbers.proofs.Scanning.{any_is}
use Rattle.heads.specs.Limits.{most_loss}
use Rattle.heads.proofs.loss_refusal.Goals as goal

pub returns-then-any : goal.returns-then-any
returns-then-any c =
    let losses = c.args.losses in
    let told = any_from_yields_List (ltb most_loss) _ _ _ c.any.ensures.ran (YieldsList-from_slice losses cc) (λ x b q k. search (rules, tests)) in
    rw (any_is (ltb most_loss) losses ∙ sym told ∙ c.if-any.true)

pub returns : goal.returns
returns c =
    let losses = c.args.losses in
    let told = any_from_yields_List (ltb most_loss) _ _ _ c.any.ensures.ran (YieldsList-from_slice losses cc) (λ x b q k. search (rules, tests)) in
    rw (any_is (ltb most_loss) losses ∙ sym told ∙ c.if-any.false)
