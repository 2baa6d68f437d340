-- `generator_found` meets its contract. Assumes nothing.
use mathlib.Core.Path.{sym, ap, ◌∙◌}
use lib.IntN.{pos}
use native.Mathlib.Nat.{zero-add}
use borrow.Author.Rules.{rules}
use Rattle.numbers.specs.Slots.{no_days, window_slots}
use Rattle.numbers.proofs.Made.{made_same}
use Rattle.results.proofs.SlotResults.{generator_at, generator_results}
use Rattle.results.proofs.generator_found.Goals as goal

pub returns : goal.returns
returns c =
    let v = c.args.value.now in
    let found = made_same _ (generator_at v) 0 window_slots (pos 0) (λ i y q below k. rw zero-add (search rules)) c.from_fn-found.ensures.items in
    ap (λ six. record { found = six; days = no_days }) (found ∙ sym (generator_results v))
