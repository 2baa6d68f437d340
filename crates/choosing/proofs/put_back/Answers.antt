-- `put_back` meets its contract. Assumes nothing.
use mathlib.Core.Path.{◌≡◌, ◌∙◌}
use borrow.Author.Rules.{rules}
use borrow.Author.Tests.{tests}
use lib.Dec.{ltb}
use lib.ListN.{length}
use Rattle.std.specs.List as list
use Rattle.std.proofs.lemmas.Iterator.{YieldsList-from_slice}
use Rattle.std.proofs.lemmas.Iterator.Search.{position_from_yields_List}
use Rattle.choosing.specs.declared.candidates.Candidate.{Candidate}
use Rattle.choosing.proofs.InHand.{put_in_hand, first_or_all}
use Rattle.choosing.proofs.put_back.Goals as goal

pub returns-clause-in_hand : goal.returns-clause-in_hand
returns-clause-in_hand c = λ w some hand of.
    let day = c.args.day in
    let items = c.args.days.now.items in
    let at = position_from_yields_List (λ (other : Candidate). ltb day.back other.back) _ _ c.position-farther.result c.position-farther.ensures.ran (YieldsList-from_slice items (cc)) (λ x b q k. search (rules, tests)) in
    let all : c.len.result ≡ length items = c.len.ensures.value in
    let place : c.unwrap_or-place.result ≡ list.position_or_len (λ (other : Candidate). ltb day.back other.back) items
    = c.unwrap_or-place.ensures ∙ rw (at, all) (first_or_all (λ (other : Candidate). ltb day.back other.back) items)
    in
    rw (c.insert.ensures.items, place) (put_in_hand w day of hand)
