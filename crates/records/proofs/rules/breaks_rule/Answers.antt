use Rattle.std.proofs.Common.{sym, ◌∙◌, not, rules, tests}
use Rattle.std.proofs.lemmas.Iterator.{YieldsList-from_slice}
use Rattle.std.proofs.lemmas.Iterator.Search.{any_from_yields_List}
use Rattle.numbers.proofs.Scanning.{any_is}
use Rattle.heads.specs.Heads.{counts}
use Rattle.records.specs.Rules.{rules as table, breaks_within}
use Rattle.records.proofs.rules.breaks_rule.Goals as goal

pub returns : goal.returns
unfolding breaks_within
returns c =
    any_from_yields_List not c.any.new.self _ c.any.result c.any.ensures.ran (YieldsList-from_slice (table counts c.args.r) cc) (λ x b q k. search (rules, tests))
    ∙ sym (any_is not (table counts c.args.r))
