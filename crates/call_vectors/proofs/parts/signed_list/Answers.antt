-- Each number is that of its place in the bytes, which stay as they are.
use Rattle.std.proofs.Common.{◌≡◌, refl, ◌∙◌, rules}
use Rattle.std.specs.Prelude.{pos}
use native.Mathlib.Nat.{zero-add}
use Rattle.numbers.proofs.Made.{made}
use Rattle.call_vectors.specs.Parts.{signed_in}
use Rattle.call_vectors.proofs.parts.signed_list.Goals as goal

pub returns : goal.returns
returns g c =
    let bytes = c.args.bytes.now in
    made _ (λ p. p.0.now ≡ bytes) (signed_in bytes) 0 g.row.N (pos 0) refl
    (λ p i y q fixed below called.
    let told : y ≡ signed_in p.0.now i = search rules in
    let kept : q.0.now ≡ bytes = search rules in
    (told ∙ cc (fixed, zero-add i), kept))
    c.from_fn.ensures.items
