-- A field's header: what its tests tell, and what one that is not refused shows. Assumes nothing.
use mathlib.Core.Path.{◌≡◌}
use mathlib.Core.Bool.{true, false, ◌&&◌, and-false}
use mathlib.Core.List.{List}
use Prim.Native.Nat.{ℕ, ◌≤◌}
use native.Mathlib.Omega.{arith}
use borrow.Author.Tests.{ltb-false, eqb-true, not-false, le-ltb, eq-eqb, ne_eqb}
use lib.Dec.{T, eqb}
use lib.ListN.{length}
use Rattle.numbers.specs.Words.{word16}
use Rattle.numbers.proofs.Refusals.{numbered, clear}
use Rattle.points.specs.Points.{consumer_length, kind_of}
use Rattle.points.proofs.PointKinds.{kind_small}
use Rattle.fields.specs.Fields.{header_length, length_at, tag_at, is_tag, is_point, length_due, header_tests, header_refusal}
use Rattle.fields.specs.declared.Due.{Due}
use Rattle.fields.specs.declared.Due.TheVariants.{Head, Calendar, Point}

-- no value is longer than a consumer
pub length_small : (due : Due) (tag : ℕ) → length_due due tag ≤ consumer_length
length_small Head tag = omega arith
length_small Calendar tag = omega arith
length_small Point tag = kind_small (kind_of tag)

-- ---- what the rows tell

pub some_bytes : (due : Due) (n : ℕ) → (n ≡ 0 → ⊥) → (is_point due && eqb n 0) ≡ false
some_bytes due n h = rw (ne_eqb n 0 h) (and-false (is_point due))

pub header_good : (due : Due) (left : List ℕ) → header_length ≤ length left → is_tag due (tag_at left) ≡ true
    → word16 left length_at ≡ length_due due (tag_at left) → header_refusal due left ≡ 0
unfolding header_refusal
header_good due left h t n = simp (some_bytes due (length left) (λ z. omega arith), le-ltb _ _ h, t, eq-eqb _ _ n)

-- ---- what a header that is not refused shows

pub numbered_header : (due : Due) (left : List ℕ) → T (numbered (header_tests due left))
numbered_header Head left = tt
numbered_header Calendar left = tt
numbered_header Point left = tt

pub record Header (due : Due) (left : List ℕ) : Type 0 where
  pub long : header_length ≤ length left
  pub tag : is_tag due (tag_at left) ≡ true
  pub size : word16 left length_at ≡ length_due due (tag_at left)

pub header_shows : (due : Due) (left : List ℕ) → header_refusal due left ≡ 0 → Header due left
unfolding header_refusal
header_shows due left e =
    let c = clear (header_tests due left) (numbered_header due left) e in
    record { long = ltb-false _ _ c.1.0; tag = not-false _ c.1.1.0; size = eqb-true _ _ (not-false _ c.1.1.1.0) }

pub header_long : (due : Due) (left : List ℕ) → header_refusal due left ≡ 0 → header_length ≤ length left
header_long due left e = (header_shows due left e).long
