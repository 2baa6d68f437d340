use Rattle.std.proofs.Common.{arith}
use Rattle.std.proofs.lemmas.Int.{ints}
use Rattle.integers.proofs.Sums.{sumℤ-next, sumℤ-end}
use Rattle.integers.proofs.total_of.Goals as goal

pub loop-slot-preserved : goal.loop-slot-preserved
loop-slot-preserved c =
    let l = c.loop-slot in
    let small = c.requires l.slot-index in
    (omega (arith, ints, small), omega (arith, ints, small, sumℤ-next c.args.totals l.slot-index l.total))

pub returns : goal.returns
returns c = let l = c.loop-slot in omega (arith, ints, sumℤ-end c.args.totals l.slot-index l.total)
