-- `consumer_results` meets its contract. Assumes nothing.
use lib.IntN.{pos}
use native.Mathlib.Nat.{zero-add}
use borrow.Author.Rules.{rules}
use Rattle.numbers.specs.Slots.{window_slots}
use Rattle.numbers.proofs.Made.{made_same}
use Rattle.results.specs.Steps.{consumer_slot}
use Rattle.results.proofs.consumer_results.Goals as goal

pub returns : goal.returns
returns c =
    let a = c.args in
    let w = a.consumer.now.window in
    made_same _ (consumer_slot a.loss a.slots w.readings.now w.slot) 0 window_slots (pos 0) (λ i y q below k. rw zero-add (search rules)) c.from_fn.ensures.items
