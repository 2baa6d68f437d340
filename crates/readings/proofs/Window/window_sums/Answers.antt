-- `window_sums` meets its contract. Assumes nothing.
use borrow.Author.Rules.{rules}
use Rattle.numbers.specs.Slots.{days_back}
use Rattle.numbers.proofs.Made.{made_same}
use Rattle.readings.specs.Readings.{window_sum, window_sums}
use Rattle.readings.proofs.Window.window_sums.Goals as goal

pub returns : goal.returns
unfolding window_sums
returns c =
    let w = c.args.self.now in
    made_same _ (window_sum w.readings.now w.slot) 1 days_back 0 (λ i y q below k. search rules) c.from_fn.ensures.items
