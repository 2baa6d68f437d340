use Rattle.std.proofs.Common.{◌≡◌, refl, ◌∙◌, ℕ, List, length-take, arith, take, drop, length-drop}
use Rattle.std.specs.Prelude.{ℤ}
use Rattle.std.proofs.Math.Seq.{take_all}
use Rattle.numbers.specs.Lists.{run}
use Rattle.numbers.specs.Words.{word32}
use Rattle.numbers.specs.Slots.{window_slots}
use Rattle.numbers.specs.PointNumbers.{number_length}
use Rattle.heads.specs.Heads.{calendar_length}
use Rattle.heads.specs.declared.Head.{Head}
use Rattle.call_vectors.specs.Parts.{signed_in, marks_at, taken_at, totals_at, last_at, head_in, state_in}
use Rattle.call_vectors.proofs.parts.state_of.Goals as goal

made : (bytes : List ℕ) {h : Head} {marks : List ℕ} {points : ℕ} {totals : List ℤ} {last : List ℕ}
    → h ≡ head_in bytes
    → marks ≡ take calendar_length (drop marks_at bytes)
    → points ≡ word32 bytes taken_at
    → totals ≡ run (signed_in (take 48 (drop totals_at bytes))) 0 window_slots
    → last ≡ take number_length (drop last_at bytes)
    → record { head = h; marks = marks; points = points; totals = totals; last = last } ≡ state_in bytes
unfolding state_in
made bytes e₁ e₂ e₃ e₄ e₅ = rw (e₁, e₂, e₃, e₄, e₅) refl

pub returns : goal.returns
returns c =
    let bytes = c.args.bytes.now in
    made bytes c.head_of-head.ensures (c.array_of-marks.ensures.whole (simp (length-take, length-drop) (omega arith))) c.word32_at-points.ensures c.signed_list-totals.ensures
    (c.number_of-last.ensures ∙ take_all number_length (take number_length (drop last_at bytes)) (simp length-take (omega arith)))
