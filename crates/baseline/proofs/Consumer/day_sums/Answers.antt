-- `day_sums` meets its contract. Assumes nothing.
use Rattle.baseline.specs.Baseline.{day_sums}
use Rattle.baseline.proofs.Consumer.day_sums.Goals as goal

pub returns : goal.returns
unfolding day_sums
returns c = rw (c.slot_sums-window.ensures, c.slot_sums-earlier.ensures, c.earlier.ensures.same, c.earlier.ensures.before)
