use Rattle.std.proofs.Common.{◌≡◌, ◌+◌, ◌-◌, sym, ap, ◌∙◌, arith}
use Rattle.book.proofs.Endings.{was_added}
use Rattle.book.proofs.settling.read_points.Goals as goal

pub loop-preserved : goal.loop-preserved
loop-preserved c =
    let l = c.loop in
    let e = c.in-Ok.ensures in
    let added = c.in-Ok-add.ensures.answer in
    let accepted = sym (ap (λ y. y.refusal) added) in
    let w = was_added (c.args.opened.head.count - l.counter) l.state l.left.now (omega arith) c.in-Ok.point.tag c.in-Ok.point.value.now e.answer e.value accepted in
    let n : c.args.opened.head.count - l.counter - 1 ≡ c.args.opened.head.count - (l.counter + 1) = omega arith in
    l.invariant ∙ w ∙ rw (n, sym e.behind, ap (λ y. y.state) (sym added))
