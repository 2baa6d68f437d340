use mathlib.Core.Path.{◌≡◌, ap, sym, ◌∙◌}
use mathlib.Core.Bool.{true, false, not}
use native.Mathlib.Omega.{arith}
use lib.ListN.{get_or}
use borrow.Author.Rules.{rules}
use borrow.Author.Tests.{lt-leb}
use Rattle.refusals.specs.Told.{number_told}
use Rattle.calendar.specs.Eligible.{is_mark}
use Rattle.numbers.proofs.Scanning.{any_here, any_next, any_end}
use Rattle.calendar.proofs.Marks.{has_number}
use Rattle.calendar.proofs.marks_refusal.Goals as goal
use Rattle.calendar.proofs.marks_refusal.Invariants.{is_wrong}

pub returns-in_err-try_from : goal.returns-in_err-try_from
returns-in_err-try_from c =
    let marks = c.args.marks.now in
    let at = c.loop-mark.mark-index in
    let told : number_told c.from_residual.result ≡ 8 = search rules in
    let wrong : is_wrong (get_or marks at 0) ≡ true = ap not (lt-leb _ _ c.in_err-try_from.ensures.1) in
    told ∙ rw (c.loop-mark.invariant ∙ any_here is_wrong marks at 0 c.loop-mark-test.true wrong)

pub loop-mark-preserved : goal.loop-mark-preserved
loop-mark-preserved c =
    let marks = c.args.marks.now in
    let at = c.loop-mark.mark-index in
    let right : is_wrong (get_or marks at 0) ≡ false = ap not (ap is_mark (sym c.in_ok-try_from.ensures) ∙ has_number _) in
    c.loop-mark.invariant ∙ any_next is_wrong marks at 0 c.loop-mark-test.true right

pub returns : goal.returns
returns c = rw (c.loop-mark.invariant ∙ any_end is_wrong c.args.marks.now _ (omega arith))
