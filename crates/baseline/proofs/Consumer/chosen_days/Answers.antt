-- `chosen_days` meets its contract. Assumes nothing.
use native.Mathlib.Omega.{arith}
use borrow.Author.Rules.{rules}
use Rattle.numbers.specs.Slots.{days_back}
use Rattle.calendar.specs.Eligible.{is_eligible}
use Rattle.readings.proofs.Bounds.{window_sums_bound}
use Rattle.choosing.proofs.Flags.{flags_filter}
use Rattle.baseline.proofs.Consumer.chosen_days.Goals as goal

pub choose-requires : goal.choose-requires
choose-requires c =
    let tested = c.args.self.now.tested in
    record { thirty = search rules; small = rw c.window_sums-sums.ensures (window_sums_bound _ tested.small _ (omega (arith, tested.window))) }

pub returns : goal.returns
returns c =
    let flags = flags_filter (is_eligible c.args.test c.args.marks) 1 days_back in
    rw (c.window_sums-sums.ensures, c.eligible_days-eligible.ensures, flags) at c.choose.ensures
