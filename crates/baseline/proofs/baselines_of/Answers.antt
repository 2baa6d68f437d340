-- `baselines_of` meets its contract. Assumes nothing.
use native.Mathlib.Nat.{zero-add}
use borrow.Author.Rules.{rules}
use Rattle.numbers.specs.Slots.{window_slots}
use Rattle.numbers.proofs.Made.{made_same}
use Rattle.baseline.specs.Baseline.{baseline}
use Rattle.baseline.proofs.baselines_of.Goals as goal

pub returns : goal.returns
returns c = made_same _ (baseline c.args.sums c.args.earlier) 0 window_slots 0 (λ i y q below k. rw (zero-add, ← c.sum_of_six-less.ensures.total) (search rules)) c.from_fn.ensures.items
