-- Which inputs a report accepts, which refusal is told of the others, and that the sums fit. Assumes nothing.
use mathlib.Core.Path.{◌≡◌, refl, sym, ap, ◌∙◌}
use mathlib.Core.Bool.{Bool, true, false, cond, not, ◌||◌, true≢false}
use mathlib.Core.List.{List, [], ◌∷◌, ◌++◌, map}
use Prim.Native.Nat.{ℕ, suc, ◌+◌, ◌*◌, ◌/◌, ◌%◌, ◌^◌, ◌<◌, ◌≤◌}
use native.Mathlib.Nat.{not-suc-le-zero}
use native.Mathlib.Decide.{dec_lt}
use native.Mathlib.Omega.{arith}
use lib.Dec.{leb, eqb, lit<}
use lib.IntN.{ℤ, nat_abs}
use lib.ListN.{length, get_or, get_or-append, get_or-eq_default}
use Rattle.std.specs.Prelude.{◌↔◌, All}
use Rattle.std.proofs.Common.{inl, inr}
use Rattle.std.proofs.lemmas.Bool.{and_parts, or_parts}
use Rattle.std.proofs.lemmas.List.{get_or-append-add}
use borrow.Author.Tests.{eq-eqb, eqb-true, le-leb, leb-true}
use Rattle.numbers.specs.Lists.{any, gather}
use Rattle.numbers.specs.Words.{Bytes}
use Rattle.records.specs.Records.{record_length, record_of, records_of, MadeOf}
use Rattle.records.specs.Rules.{breaks_rule}
use Rattle.records.specs.Report.{most_records, is_length, first_broken, sum_of, answer, report_of}
use Rattle.records.specs.declared.Record.{Record}
use Rattle.records.proofs.Words.{all_first, all_rest, all_more, made_length, records_are}
use Rattle.records.proofs.Sizes.{Small, most_size, sum_size}
use Rattle.record_claims.specs.Results.{IsResult}
use Rattle.record_claims.specs.Reports.{HoldsRecords, LengthFirst, AcceptedAreResults, LowestPlace, TellsLowestPlace, OneRefusal, TellsOneRefusal, SumsFit}
use Rattle.record_claims.proofs.Results.{records_are_results}

-- ---- the sums

pub sums_fit : SumsFit
sums_fit range tenfold records few keep = record {
  points = fits (λ r. r.points) λ r s. s.points;
  total = fits (λ r. r.total) λ r s. s.total;
  settled = fits (λ r. r.settled) λ r s. s.settled;
  shortfall = fits (λ r. r.shortfall) λ r s. s.shortfall;
  expected = fits (λ r. r.expected) λ r s. s.expected;
  kept = fits (λ r. r.kept) λ r s. s.kept;
  surplus = fits (λ r. r.surplus) λ r s. s.surplus;
}
  where
    fits : (word : Record → ℤ) → ((r : Record) → Small r → nat_abs (word r) ≤ most_size) → nat_abs (sum_of word records) < 2 ^ 63
    fits word small = omega (arith, few, sum_size range tenfold word small records keep)

-- ---- the bytes of each record

bytes_of_first : (xs ys : List ℕ) → Bytes (xs ++ ys) → Bytes xs
bytes_of_first xs ys b i = go (dec_lt i (length xs))
  where
    go : Dec (i < length xs) → get_or xs i 0 < 256
    go (yes h) = rw (sym (get_or-append xs ys 0 i h)) (b i)
    go (no h) = rw (get_or-eq_default xs 0 {n = i} (omega (arith, h))) (lit< tt)

bytes_of_rest : (xs ys : List ℕ) → Bytes (xs ++ ys) → Bytes ys
bytes_of_rest xs ys b i = rw (sym (get_or-append-add xs ys i 0)) (b (length xs + i))

-- ---- which of them are results

abbrev Long : List ℕ → Type 0
Long part = length part ≡ record_length

module _ (p : List ℕ) (ps : List (List ℕ)) (each : All Long (p ∷ ps)) (b : Bytes (gather (λ part. part) (p ∷ ps))) where
  first : (breaks_rule (record_of p) ≡ false) ↔ IsResult p
  unfolding gather
  first = records_are_results p (bytes_of_first p (gather (λ part. part) ps) b) (all_first Long p ps each)

  rest : Bytes (gather (λ part. part) ps)
  unfolding gather
  rest = bytes_of_rest p (gather (λ part. part) ps) b

keep_results : (ps : List (List ℕ)) → All Long ps → Bytes (gather (λ part. part) ps) → any breaks_rule (map record_of ps) ≡ false → All IsResult ps
unfolding any
keep_results [] each b e = λ k d h. absurd (not-suc-le-zero h)
keep_results (p ∷ ps) each b e =
    let both = or_parts (breaks_rule (record_of p)) (any breaks_rule (map record_of ps)) e in
    all_more IsResult p ps ((first p ps each b).0 both.0) (keep_results ps (all_rest Long p ps each) (rest p ps each b) both.1)

results_keep : (ps : List (List ℕ)) → All Long ps → Bytes (gather (λ part. part) ps) → All IsResult ps → any breaks_rule (map record_of ps) ≡ false
unfolding any
results_keep [] each b all = refl
results_keep (p ∷ ps) each b all =
    rw ((first p ps each b).1 (all_first IsResult p ps all)) (results_keep ps (all_rest Long p ps each) (rest p ps each b) (all_rest IsResult p ps all))

lowest : (ps : List (List ℕ)) → All Long ps → Bytes (gather (λ part. part) ps) → any breaks_rule (map record_of ps) ≡ true → LowestPlace ps (first_broken (map record_of ps))
unfolding any first_broken
lowest [] each b e = absurd (true≢false (sym e))
lowest (p ∷ ps) each b e = go (breaks_rule (record_of p)) refl e (lowest ps (all_rest Long p ps each) (rest p ps each b))
  where
    go : (t : Bool) → breaks_rule (record_of p) ≡ t → (t || any breaks_rule (map record_of ps)) ≡ true
        → (any breaks_rule (map record_of ps) ≡ true → LowestPlace ps (first_broken (map record_of ps)))
        → LowestPlace (p ∷ ps) (cond t 0 (suc (first_broken (map record_of ps))))
    go true t e later = record {
      before = [];
      here = p;
      behind = ps;
      are = refl;
      results = λ k d h. absurd (not-suc-le-zero h);
      broken = λ is. true≢false (sym t ∙ (first p ps each b).1 is);
      counted = refl;
    }
    go false t e later =
        let l = later e in
        record {
          before = p ∷ l.before;
          here = l.here;
          behind = l.behind;
          are = ap (λ rs. p ∷ rs) l.are;
          results = all_more IsResult p l.before ((first p ps each b).0 t) l.results;
          broken = l.broken;
          counted = ap suc l.counted;
        }

-- ---- the two tests

-- the refusal, by what the two tests tell
abbrev refusal_by : Bool → Bool → ℕ
refusal_by short broken = cond short 53 (cond broken 54 0)

module _ (bytes : List ℕ) where
  told : (report_of bytes).refusal ≡ refusal_by (not (is_length (length bytes))) (any breaks_rule (records_of bytes))
  unfolding report_of
  told = go (not (is_length (length bytes))) (any breaks_rule (records_of bytes))
    where
      go : (t u : Bool) → (answer (refusal_by t u) (records_of bytes)).refusal ≡ refusal_by t u
      go true u = refl
      go false true = refl
      go false false = refl

  place : (report_of bytes).refusal ≡ 54 → (report_of bytes).place ≡ first_broken (records_of bytes)
  unfolding report_of
  place = go (not (is_length (length bytes))) (any breaks_rule (records_of bytes))
    where
      go : (t u : Bool) → (answer (refusal_by t u) (records_of bytes)).refusal ≡ 54 → (answer (refusal_by t u) (records_of bytes)).place ≡ first_broken (records_of bytes)
      go true u e = absurd (omega (arith, e))
      go false true e = refl
      go false false e = absurd (omega (arith, e))

-- ---- whole records

module _ (bytes : List ℕ) where
  whole : is_length (length bytes) ≡ true → HoldsRecords bytes
  whole t =
      let both = and_parts (eqb (length bytes % record_length) 0) (leb (length bytes) (record_length * most_records)) t in
      record {
        count = length bytes / record_length;
        whole = omega (arith, eqb-true _ _ both.0);
        few = omega (arith, leb-true _ _ both.1);
      }

  of_whole : HoldsRecords bytes → is_length (length bytes) ≡ true
  of_whole h = rw (eq-eqb (length bytes % record_length) 0 (omega (arith, h.whole)), le-leb (length bytes) (record_length * most_records) (omega (arith, h.whole, h.few)))

-- ---- the statements

pub length_first : LengthFirst
length_first bytes = go (is_length (length bytes)) (any breaks_rule (records_of bytes)) refl (told bytes)
  where
    go : (t u : Bool) → is_length (length bytes) ≡ t → (report_of bytes).refusal ≡ refusal_by (not t) u → ((report_of bytes).refusal ≡ 53) ↔ (HoldsRecords bytes → ⊥)
    go false u t e = (λ _ h. true≢false (sym (of_whole bytes h) ∙ t), λ _. e)
    go true true t e = (λ is. absurd (omega (arith, e, is)), λ none. absurd (none (whole bytes t)))
    go true false t e = (λ is. absurd (omega (arith, e, is)), λ none. absurd (none (whole bytes t)))

module _ (bytes : List ℕ) (records : List (List ℕ)) (b : Bytes bytes) (made : MadeOf bytes records) where
  of_parts : Bytes (gather (λ part. part) records)
  of_parts = rw (sym made.whole) b

  holds : length records ≤ most_records → HoldsRecords bytes
  holds few = record { count = length records; whole = made_length bytes records made; few = few }

  few_of : HoldsRecords bytes → length records ≤ most_records
  few_of h = omega (arith, h.whole, h.few, made_length bytes records made)

pub accepted_are_results : AcceptedAreResults
accepted_are_results bytes records b made = go (is_length (length bytes)) (any breaks_rule (records_of bytes)) refl refl (told bytes)
  where
    go : (t u : Bool) → is_length (length bytes) ≡ t → any breaks_rule (records_of bytes) ≡ u → (report_of bytes).refusal ≡ refusal_by (not t) u
        → ((report_of bytes).refusal ≡ 0) ↔ ((length records ≤ most_records) × All IsResult records)
    go false u t keep e = (
      λ zero. absurd (omega (arith, e, zero)),
      λ both. absurd (true≢false (sym (of_whole bytes (holds bytes records b made both.0)) ∙ t)),
    )
    go true true t keep e = (
      λ zero. absurd (omega (arith, e, zero)),
      λ both. absurd (true≢false (sym keep ∙ rw (records_are bytes records made) (results_keep records made.each (of_parts bytes records b made) both.1))),
    )
    go true false t keep e = (
      λ _. (few_of bytes records b made (whole bytes t), keep_results records made.each (of_parts bytes records b made) (rw (records_are bytes records made) at keep)),
      λ _. e,
    )

pub tells_lowest_place : TellsLowestPlace
tells_lowest_place bytes records b made e = go (not (is_length (length bytes))) (any breaks_rule (records_of bytes)) refl (told bytes)
  where
    go : (t u : Bool) → any breaks_rule (records_of bytes) ≡ u → (report_of bytes).refusal ≡ refusal_by t u → LowestPlace records (report_of bytes).place
    go true u keep n = absurd (omega (arith, e, n))
    go false false keep n = absurd (omega (arith, e, n))
    go false true keep n =
        rw (place bytes e, records_are bytes records made)
        (lowest records made.each (of_parts bytes records b made) (rw (records_are bytes records made) at keep))

pub tells_one_refusal : TellsOneRefusal
unfolding report_of
tells_one_refusal bytes = go (not (is_length (length bytes))) (any breaks_rule (records_of bytes))
  where
    go : (t u : Bool) → OneRefusal (answer (refusal_by t u) (records_of bytes))
    go true u = record { refusal = inr (inl refl); place = λ _. refl; sums = λ _. refl }
    go false true = record { refusal = inr (inr refl); place = λ n. absurd (n refl); sums = λ _. refl }
    go false false = record { refusal = inl refl; place = λ _. refl; sums = λ n. absurd (n refl) }
