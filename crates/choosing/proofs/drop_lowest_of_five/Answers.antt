-- `drop_lowest_of_five` meets its contract. Assumes nothing.
use mathlib.Core.Bool.{not}
use mathlib.Core.Path.{sym, ◌∙◌}
use borrow.Author.Rules.{rules}
use borrow.Author.Tests.{tests, eqb-true, eqb-false}
use lib.Dec.{eqb}
use Rattle.arrayvec.proofs.ArrayVecLemmas.{filter-from_retain}
use Rattle.choosing.specs.declared.candidates.Candidate.{Candidate}
use Rattle.choosing.proofs.Lowest.{five_in_hand, fewer_in_hand}
use Rattle.choosing.proofs.drop_lowest_of_five.Goals as goal

pub returns-then-is_full : goal.returns-then-is_full
returns-then-is_full c = λ w some hand.
    let full = eqb-true _ _ (sym c.is_full.ensures.value ∙ c.if-is_full.true) in
    let others = λ (day : Candidate). not (eqb day.back c.lowest_of-low.result) in
    let kept = filter-from_retain _ others _ (λ x b f y k. search (rules, tests)) _ _ c.retain.ensures.filtered in
    five_in_hand hand full (c.lowest_of-low.ensures w some hand) kept

pub returns-else-is_full : goal.returns-else-is_full
returns-else-is_full c = λ w some hand. fewer_in_hand hand (eqb-false _ _ (sym c.is_full.ensures.value ∙ c.if-is_full.false))
