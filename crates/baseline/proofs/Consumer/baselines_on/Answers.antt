-- `baselines_on` meets its contract. Assumes nothing.
use mathlib.Core.Path.{◌≡◌}
use native.Mathlib.Omega.{arith}
use lib.ListN.{length}
use borrow.Author.Rules.{rules}
use Rattle.numbers.specs.Slots.{days_used}
use Rattle.readings.proofs.Bounds.{earlier_use_bound}
use Rattle.baseline.proofs.Bounds.{day_sums_bound}
use Rattle.baseline.proofs.Consumer.baselines_on.Goals as goal

pub baselines_of-requires : goal.baselines_of-requires
baselines_of-requires c =
    let days = c.args.days in
    let tested = c.args.self.now.tested in
    let four : length days.back ≡ days_used = search rules in (
      rw c.day_sums-sums.ensures (day_sums_bound _ tested.small days.back (omega arith) days.near _ (omega (arith, tested.window))),
      rw c.earlier_use-earlier.ensures (earlier_use_bound _ tested.small _ (omega (arith, tested.window))),
    )
