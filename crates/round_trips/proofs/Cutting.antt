-- A field that is written is cut out again, and one that is cut out was written so. Assumes nothing.
use mathlib.Core.Path.{◌≡◌}
use mathlib.Core.Bool.{true}
use mathlib.Core.List.{List, [], ◌∷◌, ◌++◌}
use Prim.Native.Nat.{ℕ, suc, ◌+◌, ◌/◌, ◌%◌, ◌≤◌}
use native.Mathlib.Omega.{arith}
use lib.ListN.{length, take, drop, length-append, take-append-drop}
use lib.Seq.{take_at, drop_at, length-take-le, get_or-drop}
use Rattle.numbers.specs.Words.{bytes_of, Bytes}
use Rattle.fields.specs.Fields.{tag_at, is_tag, length_due, value_in, behind, written, header_refusal}
use Rattle.fields.specs.declared.Due.{Due}
use Rattle.fields.proofs.Headers.{length_small, header_good, Header, header_shows}
use Rattle.fields.proofs.Answers.{field_good, Answer, no_header, no_value, whole, answer}
use Rattle.book.specs.Reading.{good, Part, field}

drop_three : {A : Type 0} (n : ℕ) (a b c : A) (xs : List A) → drop (3 + n) (a ∷ b ∷ c ∷ xs) ≡ drop n xs
drop_three n a b c xs = let e : 3 + n ≡ suc (suc (suc n)) = omega arith in rw e

module _ (due : Due) (tag : ℕ) (value rest : List ℕ) (size : length value ≡ length_due due tag) (t : is_tag due tag ≡ true) where
  header_reads : header_refusal due (written tag value ++ rest) ≡ 0
  unfolding bytes_of
  header_reads = header_good due (written tag value ++ rest) (omega arith) t (omega (arith, length_small due tag))

  pub reads_field : field due (written tag value ++ rest) ≡ good (record { point = record { tag = tag; value = value }; left = rest })
  unfolding bytes_of
  reads_field =
      rw (field_good due (written tag value ++ rest) header_reads (simp length-append (omega arith)))
      (rw (take_at value rest (length_due due tag) size, drop_three, drop_at value rest (length_due due tag) size))

-- ---- what is cut out was written so

pub record Was (due : Due) (left : List ℕ) (part : Part) : Type 0 where
  pub same : written part.point.tag part.point.value ++ part.left ≡ left
  pub size : length part.point.value ≡ length_due due part.point.tag
  pub tag : is_tag due part.point.tag ≡ true
  pub bytes : Bytes part.left

pub was_written : (due : Due) (left : List ℕ) (part : Part) → Bytes left → field due left ≡ good part → Was due left part
unfolding bytes_of
was_written due left part b e = go (answer due left)
  where
    shows : (l : List ℕ) → Bytes l → Header due l → 3 + length_due due (tag_at l) ≤ length l
        → let n = length_due due (tag_at l) in Was due l (record { point = record { tag = tag_at l; value = value_in n l }; left = behind n l })
    shows [] b h k = absurd (omega arith)
    shows (t ∷ []) b h k = absurd (omega arith)
    shows (t ∷ u ∷ []) b h k = absurd (omega arith)
    shows (t ∷ hi ∷ lo ∷ xs) b h k =
        let n = length_due due t in
        let m : length (take n xs) ≡ n = length-take-le n xs (omega arith) in
        let p : n / 256 % 256 ≡ hi = omega (arith, b 1, b 2) in
        let q : n / 1 % 256 ≡ lo = omega (arith, b 2) in
        record { same = rw (m, p, q, drop_three, take-append-drop n xs); size = m; tag = h.tag; bytes = λ i. rw get_or-drop (b (3 + n + i)) }

    go : Answer due left → Was due left part
    go (no_header m f) = let z : ◌≡◌ {A = ℕ} 0 1 = cc in absurd (omega arith)
    go (no_value m h f) = let z : ◌≡◌ {A = ℕ} 0 1 = cc in absurd (omega arith)
    go (whole m h f) =
        let n = length_due due (tag_at left) in
        let is : part ≡ record { point = record { tag = tag_at left; value = value_in n left }; left = behind n left } = cc in
        rw is (shows left b (header_shows due left m) h)
