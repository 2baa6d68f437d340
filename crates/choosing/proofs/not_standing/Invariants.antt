-- `not_standing` meets its contract. Assumes nothing.
use Rattle.choosing.proofs.Leaving.{UpTo}
use Rattle.choosing.proofs.not_standing.Given as goal

abbrev pub invariant-loop-k : goal.invariant-loop-k
invariant-loop-k l = UpTo l.sums l.eligible l.initial.days.items l.dropped.items l.k
