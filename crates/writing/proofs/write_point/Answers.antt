-- A refusal of the point, or too few bytes.
use mathlib.Core.Path.{ap, sym}
use Rattle.refusals.proofs.Refused.{handed_on}
use Rattle.writing.proofs.WritingRows.{answer_refused, point_room}
use Rattle.writing.proofs.write_point.Goals as goal

pub returns-in_err-point_refusal : goal.returns-in_err-point_refusal
returns-in_err-point_refusal c =
    let a = c.args in
    let e = c.in_err-point_refusal in
    let w = answer_refused a.tag a.value.now a.out.now e.field-0.0 e.ensures in
    record { answer = rw (handed_on c.from_residual.result e.field-0.0 c.from_residual.ensures.1) w.0; lent = w.1 }

pub returns-then-out-value : goal.returns-then-out-value
returns-then-out-value c =
    let a = c.args in
    let w = point_room a.tag a.value.now a.out.now (sym (ap (λ r. r.number) c.in_ok-point_refusal.ensures)) c.if-out-value.true in
    record { answer = w.0; lent = w.1 }
