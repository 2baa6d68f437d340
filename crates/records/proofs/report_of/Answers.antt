use Rattle.std.proofs.Common.{arith, length}
use Rattle.refusals.proofs.Refused.{handed_on}
use Rattle.records.proofs.Reporting.{length_refused, at_first, next, roomy, stops, ends}
use Rattle.records.proofs.report_of.Goals as goal

pub returns-in_err-length_refusal : goal.returns-in_err-length_refusal
returns-in_err-length_refusal c =
    let e = c.in_err-length_refusal in
    rw (handed_on c.from_residual.result e.field-0.0 c.from_residual.ensures.1) (length_refused c.args.bytes.now e.field-0.0 e.ensures)

pub loop-record-init : goal.loop-record-init
loop-record-init c = at_first c.as_chunks.result.0.now c.default-sums.result c.default-sums.ensures

pub returns-then-breaks_rule : goal.returns-then-breaks_rule
returns-then-breaks_rule c =
    let l = c.loop-record in
    stops _ _ _ l.invariant c.record_of-words.result c.loop-record-test.true c.record_of-words.ensures c.args.bytes.now c.as_chunks.ensures.front c.in_ok-length_refusal.ensures
    c.if-breaks_rule.ensures

pub with-sums-requires : goal.with-sums-requires
with-sums-requires c = roomy _ _ _ c.loop-record.invariant c.record_of-words.result c.loop-record-test.true c.record_of-words.ensures (length c.args.bytes.now) c.as_chunks.ensures.front_len c.in_ok-length_refusal.ensures c.if-breaks_rule.ensures

pub loop-record-preserved : goal.loop-record-preserved
loop-record-preserved c = next _ _ _ c.loop-record.invariant c.record_of-words.result c.loop-record-test.true c.record_of-words.ensures c.with-sums.result c.with-sums.ensures c.if-breaks_rule.ensures

pub returns : goal.returns
returns c = ends _ _ _ c.loop-record.invariant c.args.bytes.now c.as_chunks.ensures.front c.in_ok-length_refusal.ensures (omega (arith, c.loop-record-test.false))
