-- `give_back` meets its contract. Assumes nothing.
use native.Mathlib.Omega.{arith}
use Rattle.numbers.specs.Slots.{days_back}
use Rattle.calendar.specs.Eligible.{of_day}
use Rattle.choosing.specs.Days.{days_from}
use Rattle.choosing.proofs.Flags.{flags_rising}
use Rattle.choosing.proofs.InHand.{as_many}
use Rattle.choosing.proofs.WithReturned.{none_returned, with_returned_is}
use Rattle.choosing.proofs.give_back.Goals as goal

pub returns : goal.returns
returns c = λ stood.
    let w = of_day c.args.sums.now in
    let days = days_from 1 c.args.eligible in
    let rising = flags_rising {n = days_back} c.args.eligible (omega arith) in
    let gone = c.not_standing-dropped.ensures _ stood in
    rw (← with_returned_is w days rising (omega (arith, as_many stood))) (c.return_days.ensures w _ _ stood gone)

pub returns-then-len-ge-DAYS_USED : goal.returns-then-len-ge-DAYS_USED
returns-then-len-ge-DAYS_USED c = λ stood.
    let w = of_day c.args.sums.now in
    let days = days_from 1 c.args.eligible in
    rw (none_returned w days (omega (arith, as_many stood))) stood
