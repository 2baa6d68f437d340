-- Records passed from the front: the sums so far, and the first that breaks a rule. Assumes nothing.
use mathlib.Core.Path.{◌≡◌, refl, sym, ap, ◌∙◌}
use mathlib.Core.Bool.{Bool, true, false, cond, not}
use mathlib.Core.List.{List, [], ◌∷◌, ◌++◌, map}
use Prim.Native.Nat.{ℕ, zero, suc, ◌+◌, ◌*◌, ◌/◌, ◌%◌, ◌<◌, ◌≤◌}
use native.Mathlib.Numerals.{add-one}
use native.Mathlib.Omega.{arith}
use lib.Dec.{eqb, leb}
use lib.IntN.{ℤ, pos, ◌+ℤ◌, +ℤ_assoc, +ℤ_idr, +ℤ_idl}
use lib.ListN.{length, get_or, take, drop, length-append}
use lib.Seq.{drop-drop, split_at, take-suc, take_all, length-take-le}
use borrow.Author.Tests.{leb-true, lt-leb, eqb-false}
use Rattle.std.proofs.lemmas.Bool.{and_parts, and_right, or_parts}
use Rattle.std.proofs.lemmas.List.{get_or-map, length-map}
use Rattle.std.specs.Simd.{first_chunks}
use Rattle.numbers.specs.Lists.{run, any}
use Rattle.numbers.specs.Refusals.{first_told}
use Rattle.numbers.proofs.Filling.{any_append}
use Rattle.integers.specs.Integers.{sum_ℤ}
use Rattle.refusals.specs.declared.Refusal.{Refusal}
use Rattle.refusals.specs.declared.Refusal.TheVariants.{RecordRule}
use Rattle.refusals.specs.Told.{number_of, place_of}
use Rattle.refusals.proofs.Refused.{refused as none_by_zero}
use Rattle.records.specs.Records.{record_length, record_of, bytes_at, record_count, records_of}
use Rattle.records.specs.Rules.{breaks_rule}
use Rattle.records.specs.Report.{most_records, length_row, rule_row, report_tests, is_length, first_broken, sum_of, sums_of, Report, refused, place_told, answer, report_of}
use Rattle.records.specs.Summing.{Room, sums_with}
use Rattle.records.proofs.Sizes.{room}
use Rattle.records.specs.declared.Record.{Record}
use Rattle.records.specs.declared.Sums.{Sums}

-- ---- the records, as the code cuts them off

module _ (bytes : List ℕ) where
  chunks_run : (k i : ℕ) → map record_of (first_chunks record_length k (drop (record_length * i) bytes)) ≡ run (λ place. record_of (bytes_at bytes place)) i k
  unfolding run
  chunks_run zero i = refl
  chunks_run (suc k) i =
      let d : drop record_length (drop (record_length * i) bytes) ≡ drop (record_length * suc i) bytes =
      drop-drop record_length (record_length * i) bytes ∙ ap (λ n. drop n bytes) (omega arith) in
      ap (λ rs. record_of (bytes_at bytes i) ∷ rs) (ap (λ b. map record_of (first_chunks record_length k b)) d ∙ chunks_run k (suc i))

  pub chunks_are : map record_of (first_chunks record_length (record_count bytes) bytes) ≡ records_of bytes
  unfolding records_of
  chunks_are = chunks_run (record_count bytes) 0

-- ---- the sums

module _ (word : Record → ℤ) where
  sum_next : (rs : List Record) (r : Record) → sum_of word (rs ++ r ∷ []) ≡ sum_of word rs +ℤ word r
  unfolding sum_ℤ
  sum_next [] r = +ℤ_idr (word r) ∙ sym (+ℤ_idl (word r))
  sum_next (x ∷ rs) r = ap (λ z. word x +ℤ z) (sum_next rs r) ∙ sym (+ℤ_assoc (word x) (sum_of word rs) (word r))

pub sums_next : (rs : List Record) (r : Record) → sums_of (rs ++ r ∷ []) ≡ sums_with (sums_of rs) r
sums_next rs r =
    rw (
      length-append rs (r ∷ []),
      sum_next (λ r. r.points) rs r,
      sum_next (λ r. r.total) rs r,
      sum_next (λ r. r.settled) rs r,
      sum_next (λ r. r.shortfall) rs r,
      sum_next (λ r. r.expected) rs r,
      sum_next (λ r. r.kept) rs r,
      sum_next (λ r. r.surplus) rs r,
    )

-- ---- the first that breaks a rule

pub keep_next : (rs : List Record) (r : Record) → any breaks_rule rs ≡ false → breaks_rule r ≡ false → any breaks_rule (rs ++ r ∷ []) ≡ false
unfolding any
keep_next rs r k e = any_append breaks_rule rs (r ∷ []) ∙ rw (k, e)

-- those before it keep the rules, and it breaks one
pub broken_here : (rs : List Record) (r : Record) (rest : List Record) → any breaks_rule rs ≡ false → breaks_rule r ≡ true
    → (any breaks_rule (rs ++ r ∷ rest) ≡ true) × (first_broken (rs ++ r ∷ rest) ≡ length rs)
unfolding any first_broken
broken_here [] r rest k e = (rw e, rw e)
broken_here (x ∷ rs) r rest k e =
    let p = or_parts (breaks_rule x) (any breaks_rule rs) k in
    let h = broken_here rs r rest p.1 e in
    (rw (p.0, h.0), rw p.0 (ap suc h.1))

-- ---- the answer

-- 54 alone carries a place
no_place : (refusal : Refusal) → number_of refusal ≡ 53 → place_of refusal ≡ 0
no_place (RecordRule place) e = absurd (omega (arith, e))
no_place refusal e = refl

module _ (bytes : List ℕ) where
  rows : Bool → List (Bool × ℕ)
  rows t = (t, 53) ∷ rule_row (records_of bytes)

  wrong_length : Bool
  wrong_length = not (is_length (length bytes))

  pub length_refused : (refusal : Refusal) → number_of refusal ≡ first_told (length_row (length bytes)) → refused (number_of refusal) (place_of refusal) ≡ report_of bytes
  unfolding report_of wrong_length rows
  length_refused refusal e = go wrong_length e
    where
      go : (t : Bool) → number_of refusal ≡ cond t 53 0 → refused (number_of refusal) (place_of refusal) ≡ answer (first_told (rows t)) (records_of bytes)
      go true e = rw (e, no_place refusal e)
      go false e = absurd (none_by_zero refusal e)

  module _ (right : first_told (length_row (length bytes)) ≡ 0) where
    pub rule_refused : (n : ℕ) → any breaks_rule (records_of bytes) ≡ true → first_broken (records_of bytes) ≡ n → refused 54 n ≡ report_of bytes
    unfolding report_of wrong_length rows
    rule_refused n u e = go wrong_length right
      where
        go : (t : Bool) → first_told ((t, 53) ∷ []) ≡ 0 → refused 54 n ≡ answer (first_told (rows t)) (records_of bytes)
        go true e′ = absurd (omega (arith, e′))
        go false e′ = rw (u, e)

    pub accepted : any breaks_rule (records_of bytes) ≡ false → record { refusal = 0; place = 0; sums = sums_of (records_of bytes) } ≡ report_of bytes
    unfolding report_of wrong_length rows
    accepted u = go wrong_length right
      where
        go : (t : Bool) → first_told ((t, 53) ∷ []) ≡ 0 → record { refusal = 0; place = 0; sums = sums_of (records_of bytes) } ≡ answer (first_told (rows t)) (records_of bytes)
        go true e = absurd (omega (arith, e))
        go false e = rw u

-- what is accepted has the sums over its records
pub accepted_is : (bytes : List ℕ) → (report_of bytes).refusal ≡ 0 → report_of bytes ≡ record { refusal = 0; place = 0; sums = sums_of (records_of bytes) }
unfolding report_of
accepted_is bytes e = go (eqb told 0) refl e
  where
    told : ℕ
    told = first_told (report_tests bytes)

    sums : Report
    sums = record { refusal = 0; place = 0; sums = sums_of (records_of bytes) }

    go : (t : Bool) → eqb told 0 ≡ t → (cond t sums (refused told (place_told told (records_of bytes)))).refusal ≡ 0
        → cond t sums (refused told (place_told told (records_of bytes))) ≡ sums
    go true h e = refl
    go false h e = absurd (eqb-false told 0 h e)

-- one that is too long is refused by its length
pub too_long : (bytes : List ℕ) → record_length * most_records < length bytes → (report_of bytes).refusal ≡ 53
unfolding report_of
too_long bytes h =
    let wrong : is_length (length bytes) ≡ false = and_right (eqb (length bytes % record_length) 0) (leb (length bytes) (record_length * most_records)) (lt-leb _ _ h) in
    rw wrong

-- ---- the loop over the records

not_many : (size : ℕ) → 0 ≡ first_told (length_row size) → size / record_length ≤ most_records
not_many size right = go (is_length size) refl right
  where
    go : (t : Bool) → is_length size ≡ t → 0 ≡ first_told ((not t, 53) ∷ []) → size / record_length ≤ most_records
    go true e right = omega (arith, leb-true size (record_length * most_records) (and_parts (eqb (size % record_length) 0) (leb size (record_length * most_records)) e).1)
    go false e right = absurd (omega (arith, right))

-- those before a place keep the rules, and the sums are theirs
pub record Here (chunks : List (List ℕ)) (i : ℕ) (sums : Sums) : Type 0 where
  pub keep : any breaks_rule (take i (map record_of chunks)) ≡ false
  pub are : sums ≡ sums_of (take i (map record_of chunks))

zeros : {records : ℕ} {points total settled shortfall expected kept surplus : ℤ} → records ≡ 0 → points ≡ pos 0 → total ≡ pos 0 → settled ≡ pos 0 → shortfall ≡ pos 0 → expected ≡ pos 0
    → kept ≡ pos 0 → surplus ≡ pos 0
    → record { records = records; points = points; total = total; settled = settled; shortfall = shortfall; expected = expected; kept = kept; surplus = surplus } ≡ sums_of []
unfolding sum_ℤ
zeros records points total settled shortfall expected kept surplus = rw (records, points, total, settled, shortfall, expected, kept, surplus) refl

-- what `default` tells of each field
abbrev pub Zeros : Sums → Type 0
Zeros s =
    (s.records ≡ 0)
    × ((s.points ≡ pos 0)
    × ((s.total ≡ pos 0)
    × ((s.settled ≡ pos 0)
    × ((s.shortfall ≡ pos 0) × ((s.expected ≡ pos 0) × ((s.kept ≡ pos 0) × (s.surplus ≡ pos 0)))))))

pub at_first : (chunks : List (List ℕ)) (sums : Sums) → Zeros sums → Here chunks 0 sums
unfolding any
at_first chunks sums z = record { keep = refl; are = zeros z.0 z.1.0 z.1.1.0 z.1.1.1.0 z.1.1.1.1.0 z.1.1.1.1.1.0 z.1.1.1.1.1.1.0 z.1.1.1.1.1.1.1 }

module _ (chunks : List (List ℕ)) (i : ℕ) (sums : Sums) (here : Here chunks i sums) (r : Record) (below : i < length chunks) (is : r ≡ record_of (get_or chunks i [])) where
  inside : i < length (map record_of chunks)
  inside = rw (length-map chunks record_of) below

  is_there : get_or (map record_of chunks) i r ≡ r
  is_there = get_or-map record_of chunks i [] r below ∙ sym is

  passed : length (take i (map record_of chunks)) ≡ i
  passed = length-take-le i (map record_of chunks) (omega (arith, inside))

  more : take (i + 1) (map record_of chunks) ≡ take i (map record_of chunks) ++ r ∷ []
  more = ap (λ n. take n (map record_of chunks)) (add-one i) ∙ take-suc (map record_of chunks) i r inside ∙ rw is_there

  pub next : (after : Sums) → after ≡ sums_with sums r → false ≡ breaks_rule r → Here chunks (i + 1) after
  next after e keeps = record {
    keep = rw more (keep_next (take i (map record_of chunks)) r here.keep (sym keeps));
    are = e ∙ ap (λ s. sums_with s r) here.are ∙ sym (sums_next (take i (map record_of chunks)) r) ∙ ap sums_of (sym more);
  }

  pub roomy : (size : ℕ) → length chunks ≡ size / record_length → 0 ≡ first_told (length_row size) → false ≡ breaks_rule r → Room sums r
  roomy size count right keeps = rw here.are (room (take i (map record_of chunks)) r here.keep (sym keeps) (omega (arith, passed, count, not_many size right)))

  module _ (bytes : List ℕ) (front : chunks ≡ first_chunks record_length (record_count bytes) bytes) (right : 0 ≡ first_told (length_row (length bytes))) where
    pub stops : true ≡ breaks_rule r → refused 54 sums.records ≡ report_of bytes
    stops broken =
        let rest = drop (suc i) (map record_of chunks) in
        let whole : take i (map record_of chunks) ++ r ∷ rest ≡ records_of bytes =
        ap (λ x. take i (map record_of chunks) ++ x ∷ rest) (sym is_there) ∙ sym (split_at (map record_of chunks) i r inside) ∙ ap (map record_of) front ∙ chunks_are bytes in
        let first = broken_here (take i (map record_of chunks)) r rest here.keep (sym broken) in
        let count : sums.records ≡ length (take i (map record_of chunks)) = ap (λ s. s.records) here.are in
        rw count (rule_refused bytes (sym right) (length (take i (map record_of chunks))) (rw whole at first.0) (rw whole at first.1))

module _ (chunks : List (List ℕ)) (i : ℕ) (sums : Sums) (here : Here chunks i sums) (bytes : List ℕ) where
  pub ends : chunks ≡ first_chunks record_length (record_count bytes) bytes → 0 ≡ first_told (length_row (length bytes)) → length chunks ≤ i
      → record { refusal = 0; place = 0; sums = sums } ≡ report_of bytes
  ends front right past =
      let all : take i (map record_of chunks) ≡ records_of bytes =
      take_all i (map record_of chunks) (rw (length-map chunks record_of) past) ∙ ap (map record_of) front ∙ chunks_are bytes in
      rw here.are (rw all (accepted bytes (sym right) (rw all at here.keep)))
