-- Arrays of zeros are those of the state of zeros.
use mathlib.Core.Path.{◌≡◌, refl, sym, ◌∙◌}
use mathlib.Core.List.{List}
use Prim.Native.Nat.{ℕ, ◌<◌}
use native.Mathlib.Omega.{arith}
use lib.IntN.{ℤ, pos}
use lib.ListN.{replicate}
use Rattle.std.specs.Array.{AllOfLen}
use Rattle.std.proofs.lemmas.List.{ext_get_or, length-replicate, get_or-replicate}
use Rattle.heads.specs.declared.Head.{Head}
use Rattle.ledger.specs.States.{no_head, no_state}
use Rattle.ledger.proofs.states.no_state.Goals as goal

same : {X : Type 0} (x : X) (xs : List X) (n : ℕ) → AllOfLen (λ y. y ≡ x) xs n → xs ≡ replicate n x
same x xs n all =
    ext_get_or x xs (replicate n x) (all.long ∙ sym (length-replicate n x)) λ i below.
    let within : i < n = omega (arith, all.long) in
    all.at i x within ∙ sym (get_or-replicate n i x x within)

made_head : {year month day slot contract count : ℕ} {losses : List ℕ} → year ≡ 0 → month ≡ 0 → day ≡ 0 → slot ≡ 0 → losses ≡ replicate 3 0 → contract ≡ 0 → count ≡ 0
    → record { year = year; month = month; day = day; slot = slot; losses = losses; contract = contract; count = count } ≡ no_head
made_head year month day slot losses contract count = rw (year, month, day, slot, losses, contract, count) refl

made_state : {head : Head} {marks last : List ℕ} {points : ℕ} {totals : List ℤ} → head ≡ no_head → marks ≡ replicate 30 0 → points ≡ 0 → totals ≡ replicate 6 (pos 0) → last ≡ replicate 22 0
    → record { head = head; marks = marks; points = points; totals = totals; last = last } ≡ no_state
made_state head marks points totals last = rw (head, marks, points, totals, last) refl

pub returns : goal.returns
returns c =
    let zeros = c.default.ensures in
    let head = zeros.0 in
    let losses = same 0 _ 3 head.1.1.1.1.0 in
    let head_is = made_head head.0 head.1.0 head.1.1.0 head.1.1.1.0 losses head.1.1.1.1.1.0 head.1.1.1.1.1.1 in
    made_state head_is (same 0 _ 30 zeros.1.0) zeros.1.1.0 (same (pos 0) _ 6 zeros.1.1.1.0) (same 0 _ 22 zeros.1.1.1.1)
