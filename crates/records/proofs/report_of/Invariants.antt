-- The records so far keep the rules, and the sums are theirs.
use Rattle.records.proofs.Reporting.{Here}
use Rattle.records.proofs.report_of.Given as goal

abbrev pub invariant-loop-record : goal.invariant-loop-record
invariant-loop-record l = Here l.records l.record-index l.sums
