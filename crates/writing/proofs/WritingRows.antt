-- What writing a point tells, and what it leaves in the lent bytes. Assumes nothing.
use mathlib.Core.Path.{◌≡◌, refl, ap, ◌∙◌}
use mathlib.Core.List.{List}
use Prim.Native.Nat.{ℕ, ◌+◌, ◌≤◌, ◌<◌}
use native.Mathlib.Omega.{arith}
use borrow.Author.Tests.{eqb-true, not-false, lt-ltb, le-ltb, ne_eqb}
use lib.ListN.{length}
use Rattle.std.specs.Prelude.{Err}
use Rattle.numbers.specs.Refusals.{first_told}
use Rattle.numbers.specs.Placing.{at_front}
use Rattle.numbers.proofs.Refusals.{untold, told, passed}
use Rattle.points.specs.Points.{kind_of, size_of, with_index}
use Rattle.points.specs.Points.{Refusal}
use Rattle.points.specs.Told.{refusal_told}
use Rattle.refusals.specs.declared.Refusal.{Refusal as Cause}
use Rattle.refusals.proofs.Refused.{refused}
use Rattle.fields.specs.Fields.{written}
use Rattle.writing.specs.Writing.{room_row, value_writing_tests, value_writing_refusal, point_writing_refusal, point_writing_answer, point_writing_out}
use Rattle.points.proofs.PointKinds.{kind_small, values_numbered}

module _ (tag : ℕ) (value : List ℕ) where
  -- ---- the answer and the lent bytes, in each case

  module _ (out : List ℕ) where
    abbrev PointAnswer : Refusal → List ℕ → Type 0
    PointAnswer answer bytes = (answer ≡ point_writing_answer tag value (length out)) × (bytes ≡ point_writing_out tag value out)

    told_first : (value_writing_refusal tag value ≡ 0 → ⊥) → point_writing_refusal tag value (length out) ≡ value_writing_refusal tag value
    unfolding point_writing_refusal value_writing_refusal
    told_first n = told (value_writing_tests tag value) (room_row (length out) (3 + length value)) n

    pub point_refused : (value_writing_refusal tag value ≡ 0 → ⊥) → PointAnswer (with_index (value_writing_refusal tag value) tag value) out
    unfolding point_writing_out
    point_refused n = rw (told_first n) (refl, simp (ne_eqb _ _ n))

    -- by a refusal that was told before
    pub answer_refused : (refusal : Cause) → refusal_told {A = Unit {0}} (Err refusal) ≡ with_index (value_writing_refusal tag value) tag value
        → (refusal_told {A = Unit {0}} (Err refusal) ≡ point_writing_answer tag value (length out)) × (out ≡ point_writing_out tag value out)
    answer_refused refusal e = let w = point_refused λ z. refused refusal (ap (λ r. r.number) e ∙ z) in (e ∙ w.0, w.1)

    module _ (e : value_writing_refusal tag value ≡ 0) where
      pub told_small : length value < 65536
      unfolding value_writing_refusal
      told_small =
          let size : length value ≡ size_of (kind_of tag) = eqb-true _ _ (not-false _ (untold (value_writing_tests tag value) (values_numbered tag value) e 12)) in
          omega (arith, kind_small (kind_of tag))

      room_next : point_writing_refusal tag value (length out) ≡ first_told (room_row (length out) (3 + length value))
      unfolding point_writing_refusal value_writing_refusal
      room_next = passed (value_writing_tests tag value) (room_row (length out) (3 + length value)) (values_numbered tag value) e

      pub point_room : length out < 3 + length value → PointAnswer (record { number = 40; index = 0 }) out
      unfolding point_writing_out
      point_room h = rw (room_next, lt-ltb (length out) (3 + length value) h) (refl, refl)

      pub point_written : 3 + length value ≤ length out → PointAnswer (record { number = 0; index = 0 }) (at_front (written tag value) out)
      unfolding point_writing_out
      point_written h = rw (room_next, le-ltb (length out) (3 + length value) h) (refl, refl)
