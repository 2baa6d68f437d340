-- `highest_of` meets its contract. Assumes nothing.
use mathlib.Core.Path.{sym, ap, ◌∙◌}
use borrow.Author.Rules.{rules}
use borrow.Author.Tests.{tests}
use lib.Dec.{ltb}
use Rattle.std.proofs.lemmas.Iterator.{YieldsList-from_slice}
use Rattle.std.proofs.lemmas.Iterator.Consumers.{YieldsList-from_copied, YieldsList-at}
use Rattle.choosing.specs.declared.candidates.Candidate.{Candidate}
use Rattle.choosing.proofs.InHand.{better, picked_in_hand}
use Rattle.choosing.proofs.Reduced.{reduced}
use Rattle.choosing.proofs.highest_of.Goals as goal

pub returns : goal.returns
returns c = λ w some hand.
    let items = c.args.days.now.items in
    let road = YieldsList-from_copied (YieldsList-at c.copied.ensures.source (YieldsList-from_slice items (cc))) in
    let ran = rw c.unwrap.ensures at c.reduce-high.ensures.ran in
    let (first, others, same, high) = reduced (better (λ farther high. ltb high farther)) items (λ a x b q k. search (rules, tests)) ran road in
    let picked = picked_in_hand (λ farther high. ltb high farther) w first others hand same in (
      ap (λ (day : Candidate). day.back) high ∙ picked.0,
      ap (λ (day : Candidate). day.sum) high ∙ picked.1 ∙ ap (λ (day : Candidate). w day.back) (sym high),
    )
