-- `used` meets its contract. Assumes nothing.
use Prim.Native.Nat.{◌+◌}
use native.Mathlib.Omega.{arith}
use Rattle.readings.proofs.Bounds.{reading_bound}
use Rattle.baseline.proofs.Consumer.used.Goals as goal

pub returns-clause-small : goal.returns-clause-small
returns-clause-small c =
    let w = c.args.self.now.window in
    let tested = c.args.self.now.tested in
    rw c.reading.ensures (reading_bound w.readings.now tested.small 0 (w.slot + c.args.j) (omega arith) (omega (arith, tested.window)))
