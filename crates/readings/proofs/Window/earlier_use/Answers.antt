-- `earlier_use` meets its contract. Assumes nothing.
use Rattle.readings.specs.Readings.{earlier_use}
use Rattle.readings.proofs.Window.earlier_use.Goals as goal

pub returns : goal.returns
unfolding earlier_use
returns c = rw (c.window_sum.ensures, c.earlier.ensures.same, c.earlier.ensures.before)
