use Rattle.std.proofs.Common.{sym, ◌∙◌, ltb, ℤ, nat_abs, rules, tests}
use Rattle.std.proofs.lemmas.Iterator.{YieldsList-from_slice}
use Rattle.std.proofs.lemmas.Iterator.Search.{any_from_yields_List}
use Rattle.numbers.proofs.Scanning.{any_is}
use Rattle.figures.proofs.totals.has_beyond.Goals as goal

pub returns : goal.returns
returns c =
    let beyond = λ (total : ℤ). ltb c.args.most (nat_abs total) in
    any_from_yields_List beyond c.any.new.self _ c.any.result c.any.ensures.ran (YieldsList-from_slice c.args.totals cc) (λ x b q k. search (rules, tests))
    ∙ sym (any_is beyond c.args.totals)
