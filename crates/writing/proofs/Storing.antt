-- Writing: a field stored part by part, and two fields one behind the other. Assumes nothing.
use mathlib.Core.Path.{◌≡◌, ap, ◌∙◌}
use mathlib.Core.List.{List, [], ◌∷◌, ◌++◌, append-nil}
use Prim.Native.Nat.{ℕ, ◌+◌, ◌-◌, ◌≤◌, ◌<◌}
use native.Mathlib.Omega.{arith}
use borrow.Author.Tests.{lt-ltb, le-ltb, ne_eqb}
use lib.ListN.{length, set, take, drop, drop_of_length-le, length-drop}
use lib.Seq.{take_all, take_at, drop_at, drop-drop}
use borrow.Rule.Slice.PartMut.{put_mid}
use Rattle.numbers.specs.Words.{bytes_of}
use Rattle.numbers.specs.Placing.{at_front}
use Rattle.numbers.proofs.Places.{at_front_length, front_then}
use Rattle.fields.specs.Fields.{written}
use Rattle.numbers.specs.Refusals.{first_told}
use Rattle.numbers.proofs.Refusals.{told, passed}
use Rattle.heads.specs.Heads.{opening_tests, opening_refusal}
use Rattle.writing.specs.Writing.{head_room, room_row, written_head, head_writing_refusal, head_writing_out}

-- ---- the answer and the lent bytes, in each case

module _ (h c out : List ℕ) where
  pub head_refused : (opening_refusal h c ≡ 0 → ⊥) → head_writing_refusal h c (length out) ≡ opening_refusal h c
  unfolding head_writing_refusal opening_refusal
  head_refused n = told (opening_tests h c) (room_row (length out) head_room) n

  pub head_kept : (head_writing_refusal h c (length out) ≡ 0 → ⊥) → head_writing_out h c out ≡ out
  unfolding head_writing_out
  head_kept n = simp (ne_eqb _ _ n)

  pub head_put : head_writing_refusal h c (length out) ≡ 0 → head_writing_out h c out ≡ at_front (written_head h c) out
  unfolding head_writing_out
  head_put e = rw e

  module _ (e : opening_refusal h c ≡ 0) where
    head_passed : head_writing_refusal h c (length out) ≡ first_told (room_row (length out) head_room)
    unfolding head_writing_refusal opening_refusal
    head_passed = passed (opening_tests h c) (room_row (length out) head_room) tt e

    pub head_without_room : length out < head_room → head_writing_refusal h c (length out) ≡ 40
    head_without_room k = head_passed ∙ rw (lt-ltb (length out) head_room k)

    pub head_written : head_room ≤ length out → head_writing_refusal h c (length out) ≡ 0
    head_written k = head_passed ∙ rw (le-ltb (length out) head_room k)

pub ruleset head_answers = (head_refused, head_kept, head_put, head_without_room, head_written)

-- ---- one field

-- the header, then the value behind it
pub stored : (out value : List ℕ) (tag : ℕ) → 3 + length value ≤ length out
    → put_mid 3 (3 + length value - 3) (put_mid 1 2 (set out 0 tag) (bytes_of 2 (length value))) value ≡ at_front (written tag value) out
unfolding bytes_of
stored [] value tag h = absurd (omega arith)
stored (x ∷ []) value tag h = absurd (omega arith)
stored (x ∷ y ∷ []) value tag h = absurd (omega arith)
stored (x ∷ y ∷ z ∷ out) value tag h = let e : 3 + length value - 3 ≡ length value = omega arith in rw e

pub written_length : (tag : ℕ) (value : List ℕ) → length (written tag value) ≡ 3 + length value
unfolding bytes_of
written_length tag value = omega arith

-- ---- one list of bytes behind another

-- the second is put through the part of the lent bytes behind the first
module _ (a b out x y : List ℕ) (n : ℕ) (size : length a ≡ n) (room : n + length b ≤ length out)
    (ex : x ≡ at_front a out) (ey : y ≡ at_front b (take (length x - n) (drop n x))) where
  pub first_length : length x ≡ length out
  first_length = ap length ex ∙ at_front_length a out (omega arith)

  behind_first : take (length x - n) (drop n x) ≡ drop (length a) out
  behind_first =
      take_all (length x - n) (drop n x) (omega (arith, length-drop n x)) ∙ ap (drop n) ex ∙ drop_at a (drop (length a) out) n size

  pub both_parts : put_mid n (length x - n) x y ≡ at_front (a ++ b) out
  both_parts =
      let within : n ≤ length x = omega (arith, first_length) in
      ap (λ bytes. bytes ++ (y ++ drop (length x - n) (drop n x))) (ap (take n) ex ∙ take_at a (drop (length a) out) n size)
      ∙ ap (λ bytes. a ++ (y ++ bytes)) (drop-drop (length x - n) n x ∙ drop_of_length-le x {i = n + (length x - n)} (omega arith))
      ∙ ap (λ bytes. a ++ bytes) (append-nil y ∙ ey ∙ ap (at_front b) behind_first)
      ∙ front_then a out b
