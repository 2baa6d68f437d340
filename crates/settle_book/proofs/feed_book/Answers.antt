-- What is fed is what came, no more than was due; what is handed back is how a whole book ends.
use Rattle.std.proofs.Common.{◌≡◌, ◌≤◌, ◌+◌, ◌-◌, ◌++◌, sym, refl, ◌∙◌, length, take, drop, arith, rules, length-take}
use Rattle.feeding.specs.Feeding.{due_of}
use Rattle.feeding.proofs.Coming.{comes_over, comes_more, comes_last, ends_whole}
use Rattle.settle_book.proofs.feed_book.Goals as goal

pub returns-in-Err : goal.returns-in-Err
returns-in-Err g c = ends_whole (comes_over _ c.loop.invariant.1 (omega arith) c.in-Err.ensures refl)

pub returns-then-is_over : goal.returns-then-is_over
returns-then-is_over g c = ends_whole (comes_over _ c.loop.invariant.1 (omega arith) c.in-Ok.ensures (sym c.is_over.ensures ∙ c.if-is_over.true))

pub loop-preserved : goal.loop-preserved
loop-preserved g c =
    let count = c.in_ok-count.count in
    let filled = c.fill.new.bytes ++ drop c.due-due.result c.loop.buffer in
    let room : count ≤ c.due-due.result = search rules in
    let came : length (take count filled) ≤ due_of c.loop.progress.wait = omega (arith, length-take count filled) in
    let left : c.most_feedings-end.result - (c.loop.counter + 1) ≡ c.most_feedings-end.result - c.loop.counter - 1 = omega arith in
    (search rules, rw left (comes_more _ c.loop.invariant.1 (omega arith) c.in-Ok.ensures came (sym c.is_over.ensures ∙ c.if-is_over.false)))

pub returns : goal.returns
returns g c = ends_whole (comes_last c.loop.invariant.1 (omega arith))
