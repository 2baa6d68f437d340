-- `slot_sums` meets its contract. Assumes nothing.
use borrow.Author.Rules.{rules}
use Rattle.numbers.specs.Slots.{window_slots}
use Rattle.numbers.proofs.Made.{made_same}
use Rattle.readings.specs.Readings.{slot_sum, slot_sums}
use Rattle.readings.proofs.Window.slot_sums.Goals as goal

pub returns : goal.returns
unfolding slot_sums
returns c =
    let w = c.args.self.now in
    made_same _ (slot_sum w.readings.now c.args.days.back) w.slot window_slots 0 (λ i y q below k. search rules) c.from_fn.ensures.items
