-- `walk` meets its contract. Both loops keep what `Here` says of the days in hand; each round but the last goes to a farther place.
-- Assumes nothing.
use Prim.Native.Nat.{◌≤◌, ◌<◌, ◌-◌, ◌+◌}
use lib.ListN.{length}
use Rattle.numbers.specs.Slots.{days_back}
use Rattle.choosing.specs.Choosing.{round_days}
use Rattle.choosing.proofs.Walking.{Here}
use Rattle.choosing.proofs.walk.Given as goal

abbrev pub invariant-loop-eligible : goal.invariant-loop-eligible
invariant-loop-eligible l =
    (l.k ≤ days_back) × (length l.days.items + l.initial.k ≤ length l.initial.days.items + l.k) × Here l.sums l.eligible l.days.items l.k

abbrev pub decreases-loop-eligible : goal.decreases-loop-eligible
decreases-loop-eligible l = days_back - l.k

abbrev pub invariant-walk : goal.invariant-walk
invariant-walk l = (l.k ≤ days_back) × (length l.days.items < round_days) × Here l.sums l.eligible l.days.items l.k

abbrev pub decreases-walk : goal.decreases-walk
decreases-walk l = days_back - l.k
