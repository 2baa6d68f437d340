-- `is_in_hand` meets its contract. Assumes nothing.
use mathlib.Core.Path.{sym, ◌∙◌}
use borrow.Author.Rules.{rules}
use borrow.Author.Tests.{tests}
use lib.Dec.{eqb}
use Rattle.std.proofs.lemmas.Iterator.{YieldsList-from_slice}
use Rattle.std.proofs.lemmas.Iterator.Search.{any_from_yields_List}
use Rattle.choosing.specs.declared.candidates.Candidate.{Candidate}
use Rattle.choosing.proofs.InHand.{any_back}
use Rattle.choosing.proofs.is_in_hand.Goals as goal

pub returns : goal.returns
returns c =
    let items = c.args.days.now.items in
    let told = any_from_yields_List (λ (day : Candidate). eqb c.args.back day.back) _ _ _ c.any.ensures.ran (YieldsList-from_slice items cc) (λ x b q k. search (rules, tests)) in
    told ∙ sym (any_back c.args.back items)
