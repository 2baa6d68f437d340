-- No room, a refusal, or the figures.
use Rattle.std.proofs.Common.{sym, ap, ◌∙◌}
use Rattle.book.specs.Endings.{closed_after}
use Rattle.book.specs.Settling.{result_bytes}
use Rattle.book.proofs.Endings.{no_room, not_settled, all_settled}
use Rattle.refusals.proofs.Refused.{refused}
use Rattle.refusals.proofs.Exits.{exit_told}
use Rattle.book.proofs.settling.settle.Goals as goal

pub returns-then-res-ne-RESULT_LENGTH-clause-value : goal.returns-then-res-ne-RESULT_LENGTH-clause-value
returns-then-res-ne-RESULT_LENGTH-clause-value c = (no_room c.args.book.now c.args.res.now c.if-res-ne-RESULT_LENGTH.true).0

pub returns-then-res-ne-RESULT_LENGTH-clause-res_after : goal.returns-then-res-ne-RESULT_LENGTH-clause-res_after
returns-then-res-ne-RESULT_LENGTH-clause-res_after c = (no_room c.args.book.now c.args.res.now c.if-res-ne-RESULT_LENGTH.true).1

-- once the book is closed, the answer is that of the whole book

pub returns-in_err-figures-clause-value : goal.returns-in_err-figures-clause-value
returns-in_err-figures-clause-value c =
    let refusal = c.in_err-figures.field-0.0 in
    let is = ap (λ y. y.refusal) (c.in_err-figures.ensures ∙ ap closed_after c.read.ensures) in
    exit_told c.from_residual.result refusal c.from_residual.ensures.1 ∙ is ∙ (not_settled c.args.book.now c.args.res.now c.if-res-ne-RESULT_LENGTH.false (λ e. refused refusal (is ∙ e))).0

pub returns-in_err-figures-clause-res_after : goal.returns-in_err-figures-clause-res_after
returns-in_err-figures-clause-res_after c =
    let refusal = c.in_err-figures.field-0.0 in
    let is = ap (λ y. y.refusal) (c.in_err-figures.ensures ∙ ap closed_after c.read.ensures) in
    (not_settled c.args.book.now c.args.res.now c.if-res-ne-RESULT_LENGTH.false (λ e. refused refusal (is ∙ e))).1

pub returns-clause-value : goal.returns-clause-value
returns-clause-value c =
    let is = c.in_ok-figures.ensures ∙ ap closed_after c.read.ensures in
    (all_settled c.args.book.now c.args.res.now c.if-res-ne-RESULT_LENGTH.false (sym (ap (λ y. y.refusal) is))).0

pub returns-clause-res_after : goal.returns-clause-res_after
returns-clause-res_after c =
    let is = c.in_ok-figures.ensures ∙ ap closed_after c.read.ensures in
    c.copy_from_slice.ensures.after ∙ c.as_flattened.ensures.value ∙ c.words_of.ensures ∙ ap (λ y. result_bytes y.figures) is
    ∙ (all_settled c.args.book.now c.args.res.now c.if-res-ne-RESULT_LENGTH.false (sym (ap (λ y. y.refusal) is))).1
