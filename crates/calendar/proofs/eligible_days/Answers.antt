-- A day's place is one less than its number back.
use mathlib.Core.Path.{◌≡◌, refl, ◌∙◌}
use mathlib.Core.Bool.{false, not, ◌&&◌}
use Prim.Native.Nat.{◌+◌, ◌-◌}
use native.Mathlib.Nat.{add_comm, add-sub_cancel_left}
use lib.Dec.{eqb}
use lib.ListN.{get_or}
use borrow.Author.Rules.{rules}
use Rattle.calendar.specs.Dates.{is_weekend}
use Rattle.calendar.specs.Eligible.{no_mark, is_eligible}
use Rattle.numbers.proofs.Made.{made}
use Rattle.calendar.proofs.eligible_days.Goals as goal

pub returns : goal.returns
returns c =
    let a = c.args in
    made _ (λ p. (p.0.now ≡ a.test) × (p.1.now ≡ a.marks)) (is_eligible a.test a.marks) 1 30 false (refl, refl)
    (λ p i y q fixed below called.
    let told : y ≡ not (is_weekend (p.0.now - (i + 1))) && eqb (get_or p.1.now i 0) no_mark = search rules in
    let kept : (q.0.now ≡ a.test) × (q.1.now ≡ a.marks) = search rules in
    (told ∙ cc (fixed.0, fixed.1, add_comm i 1, add-sub_cancel_left 1 i), kept))
    c.from_fn.ensures.items
