use Rattle.std.proofs.Common.{◌≡◌, ◌∙◌, refl, get_or, pos, ◌+ℤ◌, rules, w64}
use native.Mathlib.Nat.{zero-add}
use Rattle.numbers.proofs.Made.{made}
use Rattle.integers.proofs.Machine.{back}
use Rattle.figures.proofs.SlotTotals.{as_read, plus_run}
use Rattle.figures.proofs.totals.add_totals.Goals as goal

pub returns : goal.returns
returns c =
    let a = c.args in
    made _ (λ p. (p.0.now ≡ a.totals) × (p.1.now ≡ a.found)) (λ slot. get_or a.totals slot (pos 0) +ℤ get_or a.found slot (pos 0)) 0 6 (pos 0) (refl, refl)
    (λ p slot y q fixed below called.
    let told : y ≡ back w64 (get_or p.0.now slot (pos 0)) +ℤ back w64 (get_or p.1.now slot (pos 0)) = search rules in
    let kept : (q.0.now ≡ a.totals) × (q.1.now ≡ a.found) = search rules in
    (told ∙ rw (fixed.0, fixed.1, zero-add) (as_read (get_or a.totals slot (pos 0)) (get_or a.found slot (pos 0)) (c.requires slot)), kept))
    c.from_fn.ensures.items ∙ plus_run a.totals a.found 6 (search rules) (search rules)
