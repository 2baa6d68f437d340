-- `return_days` meets its contract. Assumes nothing.
use Prim.Native.Nat.{◌-◌}
use lib.ListN.{length}
use Rattle.numbers.specs.Slots.{days_used}
use Rattle.choosing.proofs.Giving.{Given}
use Rattle.choosing.proofs.return_days.Given as goal

abbrev pub invariant-loop-dropped : goal.invariant-loop-dropped
invariant-loop-dropped l = Given l.initial.days.items l.initial.dropped.items l.days.items l.dropped.items

abbrev pub decreases-loop-dropped : goal.decreases-loop-dropped
decreases-loop-dropped l = days_used - length l.days.items
