-- `return_days` meets its contract. Assumes nothing.
use mathlib.Core.Path.{sym, ◌∙◌}
use mathlib.Core.Bool.{not}
use mathlib.Core.Logic.{inl, inr}
use native.Mathlib.Omega.{arith}
use borrow.Author.Rules.{rules}
use borrow.Author.Tests.{tests, eqb-true, eqb-false}
use lib.Dec.{eqb}
use Rattle.arrayvec.proofs.ArrayVecLemmas.{filter-from_retain}
use Rattle.choosing.specs.declared.candidates.Candidate.{Candidate}
use Rattle.choosing.proofs.Giving.{gives, given_all}
use Rattle.choosing.proofs.return_days.Goals as goal

pub loop-dropped-smaller : goal.loop-dropped-smaller
loop-dropped-smaller c = omega (arith, c.put_back.ensures.more, c.len.ensures.value, c.loop-dropped-test.true)

pub loop-dropped-preserved : goal.loop-dropped-preserved
loop-dropped-preserved c =
    let high = c.highest_of-high.result in
    let others = λ (day : Candidate). not (eqb day.back high.back) in
    let kept = filter-from_retain _ others _ (λ x b f y k. search (rules, tests)) _ _ c.retain.ensures.filtered in
    let some = eqb-false _ _ (sym c.is_empty.ensures ∙ c.if-not-is_empty.true) in
    gives c.loop-dropped.invariant high (omega (arith, c.len.ensures.value, c.loop-dropped-test.true)) (omega (arith, some)) c.highest_of-high.ensures kept c.put_back.ensures.in_hand

pub returns-else-not-is_empty : goal.returns-else-not-is_empty
returns-else-not-is_empty c = given_all c.loop-dropped.invariant (inr (eqb-true _ _ (sym c.is_empty.ensures ∙ c.if-not-is_empty.false)))

pub returns-after-loop-dropped : goal.returns-after-loop-dropped
returns-after-loop-dropped c = given_all c.loop-dropped.invariant (inl (omega (arith, c.len.ensures.value, c.loop-dropped-test.false)))
