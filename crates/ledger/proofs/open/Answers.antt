-- An accepted opening gives the state that its bytes say.
use mathlib.Core.Path.{sym}
use native.Mathlib.Omega.{arith}
use Rattle.heads.proofs.Opening.{opening_lengths}
use Rattle.ledger.proofs.Sound.{open_good}
use Rattle.ledger.proofs.open.Goals as goal

pub array_of-marks-requires : goal.array_of-marks-requires
array_of-marks-requires c = omega (arith, opening_lengths c.args.head.now c.args.calendar.now (sym c.in_ok-opening_refusal.ensures))

pub head_of-requires : goal.head_of-requires
head_of-requires c = (opening_lengths c.args.head.now c.args.calendar.now (sym c.in_ok-opening_refusal.ensures)).0

pub returns : goal.returns
returns c =
    let accepted = sym c.in_ok-opening_refusal.ensures in
    let marks = c.array_of-marks.ensures.whole (opening_lengths c.args.head.now c.args.calendar.now accepted).1 in
    rw (c.opened_state.ensures, c.head_of.ensures, marks) (sym (open_good c.args.head.now c.args.calendar.now accepted))
