-- The records of an input that is made of records, and the sums over them. Assumes nothing.
use mathlib.Core.Path.{◌≡◌, refl, sym, ap, ◌∙◌}
use mathlib.Core.List.{List, [], ◌∷◌, map}
use Prim.Native.Nat.{ℕ, zero, suc, ◌*◌, ◌/◌}
use native.Mathlib.Omega.{arith}
use lib.IntN.{ℤ}
use lib.ListN.{length, length-append}
use lib.Seq.{take_at, drop_at}
use Rattle.std.specs.Prelude.{All}
use Rattle.std.specs.Simd.{first_chunks}
use Rattle.numbers.specs.Lists.{gather}
use Rattle.integers.specs.Integers.{signed_word, sum_ℤ}
use Rattle.records.specs.Records.{record_length, record_of, records_of, MadeOf}
use Rattle.records.specs.Report.{sum_of}
use Rattle.records.specs.declared.Record.{Record}
use Rattle.records.proofs.Reporting.{chunks_are}

-- ---- what holds of each of a list

module _ {X : Type 0} (P : X → Type 0) (x : X) (xs : List X) where
  pub all_first : All P (x ∷ xs) → P x
  all_first all = all 0 x (omega arith)

  pub all_rest : All P (x ∷ xs) → All P xs
  all_rest all k d h = all (suc k) d (omega (arith, h))

  pub all_more : P x → All P xs → All P (x ∷ xs)
  all_more p all zero d h = p
  all_more p all (suc k) d h = all k d (omega (arith, h))

-- ---- the records

pub parts_length : (parts : List (List ℕ)) → All (λ part. length part ≡ record_length) parts → length (gather (λ part. part) parts) ≡ record_length * length parts
unfolding gather
parts_length [] each = refl
parts_length (p ∷ ps) each = length-append p (gather (λ part. part) ps) ∙ omega (arith, all_first (λ part. length part ≡ record_length) p ps each, parts_length ps (all_rest (λ part. length part ≡ record_length) p ps each))

chunks_back : (parts : List (List ℕ)) → All (λ part. length part ≡ record_length) parts → first_chunks record_length (length parts) (gather (λ part. part) parts) ≡ parts
unfolding gather
chunks_back [] each = refl
chunks_back (p ∷ ps) each =
    let rest = gather (λ part. part) ps in
    let long : length p ≡ record_length = all_first (λ part. length part ≡ record_length) p ps each in
    rw (take_at p rest record_length long, drop_at p rest record_length long) (ap (λ cs. p ∷ cs) (chunks_back ps (all_rest (λ part. length part ≡ record_length) p ps each)))

module _ (bytes : List ℕ) (parts : List (List ℕ)) (made : MadeOf bytes parts) where
  pub made_length : length bytes ≡ record_length * length parts
  made_length = ap length made.whole ∙ parts_length parts made.each

  pub records_are : records_of bytes ≡ map record_of parts
  records_are =
      let count : length bytes / record_length ≡ length parts = omega (arith, made_length) in
      sym (chunks_are bytes) ∙ rw (count, made.whole) (ap (map record_of) (chunks_back parts made.each))

  pub sum_is : (field : Record → ℤ) (k : ℕ) → ((part : List ℕ) → field (record_of part) ≡ signed_word part (8 * k)) → sum_of field (records_of bytes) ≡ sum_ℤ (map (λ part. signed_word part (8 * k)) parts)
  sum_is field k word = ap (sum_of field) records_are ∙ ap sum_ℤ (go parts)
    where
      go : (ps : List (List ℕ)) → map field (map record_of ps) ≡ map (λ part. signed_word part (8 * k)) ps
      go [] = refl
      go (p ∷ ps) = rw (word p, go ps)
