-- `keep` meets its contract. Assumes nothing.
use mathlib.Core.List.{List}
use mathlib.Core.Path.{◌≡◌, ap, ◌∙◌}
use Prim.Native.Nat.{◌*◌, ◌≤◌}
use native.Mathlib.Omega.{arith}
use borrow.Author.Rules.{rules}
use borrow.Author.Tests.{tests}
use lib.Dec.{leb}
use lib.ListN.{length, take, length-take}
use lib.Seq.{take_all}
use Rattle.std.specs.List.{sum}
use Rattle.std.proofs.lemmas.Iterator.{YieldsList-from_map, YieldsList-from_slice}
use Rattle.std.proofs.lemmas.Iterator.Consumers.{sum_from_yields_List, fits_from_yields_list}
use Rattle.arrayvec.proofs.ArrayVecLemmas.{filter-from_retain}
use Rattle.choosing.specs.declared.candidates.Candidate.{Candidate}
use Rattle.choosing.proofs.InHand.{sums, sums_within, round_in_hand}
use Rattle.choosing.proofs.keep.Goals as goal

pub sum-all-requires-clause-fits : goal.sum-all-requires-clause-fits
sum-all-requires-clause-fits c =
    let five = c.unwrap-five.result.now in
    let chunk = rw c.unwrap-five.ensures at c.first_chunk.ensures.cases in
    let size : length five ≤ 5 = omega (arith, ap (length {A = Candidate}) chunk.same, length-take 5 c.deref.result.now) in
    fits_from_yields_list c.map.result _
    (YieldsList-from_map _ (λ (day : Candidate). day.sum) (YieldsList-from_slice five (cc)) c.map.ensures.closure (λ x r q k. search rules))
    (omega (arith, sums_within five))

pub returns : goal.returns
returns c = λ w days hand.
    let five = c.unwrap-five.result.now in
    let chunk = rw c.unwrap-five.ensures at c.first_chunk.ensures.cases in
    let same : five ≡ c.args.days.now.items
    = chunk.same ∙ ap (λ (xs : List Candidate). take 5 xs) c.deref.ensures.0 ∙ take_all 5 c.args.days.now.items (omega arith)
    in
    let all : c.sum-all.result ≡ sum (sums five)
    = sum_from_yields_List c.map.result _ c.sum-all.ensures.ran
    (YieldsList-from_map _ (λ (day : Candidate). day.sum) (YieldsList-from_slice five (cc)) c.map.ensures.closure (λ x r q k. search rules))
    in
    let kept
    = filter-from_retain _ (λ (day : Candidate). leb c.sum-all.result (day.sum * 20)) _ (λ x b f y k. search (rules, tests)) _ _ c.retain.ensures.filtered
    in
    round_in_hand c.sum-all.result hand (rw same at all) kept
