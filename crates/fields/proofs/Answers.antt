-- The field answer by its header and by the bytes behind it. Assumes nothing.
use mathlib.Core.Path.{◌≡◌, refl, ◌∙◌}
use mathlib.Core.Bool.{Bool, true, false}
use mathlib.Core.List.{List}
use Prim.Native.Nat.{ℕ, ◌+◌, ◌≤◌, ◌<◌}
use native.Mathlib.Decide.{ℕ_discrete}
use native.Mathlib.Omega.{arith}
use borrow.Author.Tests.{ltb-true, ltb-false, lt-ltb, le-ltb, ne_eqb}
use lib.Dec.{ltb}
use lib.ListN.{length}
use Rattle.numbers.proofs.Refusals.{told, passed}
use Rattle.fields.specs.Fields.{tag_at, length_due, header_tests, header_refusal, cut_row, field_refusal, Value, Refused, field_of}
use Rattle.fields.specs.declared.Due.{Due}
use Rattle.fields.proofs.Headers.{numbered_header, header_long}

module _ (due : Due) (left : List ℕ) where
  abbrev size : ℕ
  size = length_due due (tag_at left)

  refusal_header : (header_refusal due left ≡ 0 → ⊥) → field_refusal due left ≡ header_refusal due left
  unfolding field_refusal header_refusal
  refusal_header n = told (header_tests due left) (cut_row due left) n

  pub field_refused : (header_refusal due left ≡ 0 → ⊥) → field_of due left ≡ Refused (header_refusal due left)
  unfolding field_of
  field_refused n = rw (refusal_header n) (simp (ne_eqb _ _ n))

  module _ (e : header_refusal due left ≡ 0) where
    refusal_cut : length left < 3 + size → field_refusal due left ≡ 31
    unfolding field_refusal header_refusal
    refusal_cut h = passed (header_tests due left) (cut_row due left) (numbered_header due left) e ∙ simp (lt-ltb _ _ h)

    refusal_none : 3 + size ≤ length left → field_refusal due left ≡ 0
    unfolding field_refusal header_refusal
    refusal_none h = passed (header_tests due left) (cut_row due left) (numbered_header due left) e ∙ simp (le-ltb _ _ h)

    pub field_cut : length left < 3 + size → field_of due left ≡ Refused 31
    unfolding field_of
    field_cut h = rw (refusal_cut h)

    pub field_good : 3 + size ≤ length left → field_of due left ≡ Value (tag_at left) size
    unfolding field_of
    field_good h = rw (refusal_none h)

  -- its three cases
  pub data Answer : Type 0 where
    no_header : (header_refusal due left ≡ 0 → ⊥) → field_of due left ≡ Refused (header_refusal due left) → Answer
    no_value : header_refusal due left ≡ 0 → length left < 3 + size → field_of due left ≡ Refused 31 → Answer
    whole : header_refusal due left ≡ 0 → 3 + size ≤ length left → field_of due left ≡ Value (tag_at left) size → Answer

  pub answer : Answer
  answer = go (ℕ_discrete (header_refusal due left) 0) (ltb (length left) (3 + size)) refl
    where
      go : Dec (header_refusal due left ≡ 0) → (t : Bool) → ltb (length left) (3 + size) ≡ t → Answer
      go (no n) t p = no_header n (field_refused n)
      go (yes e) true p = let h = ltb-true _ _ p in no_value e h (field_cut e h)
      go (yes e) false p = let h = ltb-false _ _ p in whole e h (field_good e h)

  -- a value that is cut out lies in what is left
  pub cut_within : (tag n : ℕ) → field_of due left ≡ Value tag n → 3 + n ≤ length left
  cut_within tag n e = go answer
    where
      go : Answer → 3 + n ≤ length left
      go (no_header m f) = let z : ◌≡◌ {A = ℕ} 0 1 = cc in absurd (omega arith)
      go (no_value m h f) = let z : ◌≡◌ {A = ℕ} 0 1 = cc in absurd (omega arith)
      go (whole m h f) = let k : size ≡ n = cc in omega arith

-- for `using` at a function that cuts a field off
pub ruleset answers = (header_long, field_refused, field_cut, field_good)
