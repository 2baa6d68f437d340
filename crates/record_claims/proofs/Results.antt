-- The bytes of a result and the words of its record, each from the other; and the closing that a record shows. Assumes nothing.
use mathlib.Core.Path.{◌≡◌, refl, sym, ap, ◌∙◌}
use mathlib.Core.Bool.{Bool, true, false, cond, not, ◌&&◌}
use mathlib.Core.List.{List, [], ◌∷◌, ◌++◌, append-nil, append_assoc}
use Prim.Native.Nat.{ℕ, zero, suc, ◌+◌, ◌*◌, ◌^◌, ◌<◌, ◌≤◌}
use native.Mathlib.Omega.{arith}
use lib.Dec.{ltb}
use lib.IntN.{ℤ, pos, negsuc, nat_abs}
use lib.ListN.{length, get_or, take, drop, replicate, take-append-drop, drop_of_length-le}
use lib.Seq.{drop-drop}
use lib.Signed.{mag}
use Rattle.numbers.specs.Lists.{gather, any, run}
use Rattle.numbers.specs.Words.{bytes_of, Bytes}
use Rattle.integers.specs.Integers.{twos_complement, signed_word}
use Rattle.integers.proofs.TwosComplement.{signed_word_back, signed_word_bytes}
use Rattle.heads.specs.Heads.{counts}
use Rattle.figures.specs.declared.Figures.{Figures}
use Rattle.book.specs.Settling.{result_bytes}
use Rattle.records.specs.Records.{record_of}
use Rattle.records.specs.Rules.{breaks_rule}
use Rattle.records.specs.declared.Record.{Record}
use Rattle.records.proofs.Keeping.{Kept, kept}
use Rattle.records.proofs.Sizes.{Small, small, most_size}
use Rattle.numbers.specs.Lists.{sum, same}
use Rattle.numbers.specs.Slots.{days_back}
use Rattle.numbers.specs.PointNumbers.{number_length, digit0, digits, is_number}
use Rattle.calendar.specs.Dates.{is_date, day_count}
use Rattle.integers.specs.Integers.{or_zero}
use Rattle.heads.specs.Limits.{most_result}
use Rattle.heads.specs.Heads.{content_refusal}
use Rattle.results.proofs.Bounds.{is_beyond}
use Rattle.ledger.specs.Operations.{close_of}
use Rattle.ledger.specs.declared.State.{State}
use Rattle.ledger.proofs.Sound.{close_refusal, Sound, closing_sound}
use borrow.Author.Tests.{le-ltb, le-leb}
use Rattle.std.proofs.lemmas.Bool.{and_right}
use Rattle.record_claims.specs.Results.{Whole, IsResult, RecordsAreResults, ClosingsPass}
use Rattle.record_claims.proofs.Closings.{words, closing_figures, closing_keeps}
use Rattle.record_claims.proofs.Shown.{Shown, shown, Six, six_of, figures_shown}

-- ---- from the words to the bytes and back

fits : (z : ℤ) → nat_abs z ≤ most_size → mag z < 2 ^ 63
fits (pos n) h = omega (arith, h)
fits (negsuc n) h = omega (arith, h)

bid_fits : (b : Bool) → mag (pos (cond b 1 0)) < 2 ^ 63
bid_fits true = omega arith
bid_fits false = omega arith

module _ (f : Figures) (s : Small (words f)) where
  pub words_back : record_of (result_bytes f) ≡ words f
  unfolding gather bytes_of
  words_back =
      let b = result_bytes f in
      rw (
        signed_word_back b (8 * 0) f.total (fits f.total s.total) refl,
        signed_word_back b (8 * 1) f.settled (fits f.settled s.settled) refl,
        signed_word_back b (8 * 2) (pos f.shortfall) (fits (pos f.shortfall) s.shortfall) refl,
        signed_word_back b (8 * 3) (pos f.expected) (fits (pos f.expected) s.expected) refl,
        signed_word_back b (8 * 4) (pos f.kept) (fits (pos f.kept) s.kept) refl,
        signed_word_back b (8 * 5) (pos f.surplus) (fits (pos f.surplus) s.surplus) refl,
        signed_word_back b (8 * 6) (pos f.points) (fits (pos f.points) s.points) refl,
        signed_word_back b (8 * 7) (pos (cond f.bid 1 0)) (bid_fits f.bid) refl,
      )

-- ---- from the bytes to the words and back

-- eight bytes after the other
parts : (bytes : List ℕ) (i n : ℕ) → gather (λ k. take 8 (drop (8 * k) bytes)) (run (λ k. k) i n) ++ drop (8 * (i + n)) bytes ≡ drop (8 * i) bytes
unfolding gather run
parts bytes i zero = ap (λ n. drop n bytes) (omega arith)
parts bytes i (suc n) =
    let rest : gather (λ k. take 8 (drop (8 * k) bytes)) (run (λ k. k) (suc i) n) ++ drop (8 * (i + suc n)) bytes ≡ drop 8 (drop (8 * i) bytes) =
    ap (λ m. gather (λ k. take 8 (drop (8 * k) bytes)) (run (λ k. k) (suc i) n) ++ drop m bytes) (omega arith)
    ∙ parts bytes (suc i) n
    ∙ ap (λ m. drop m bytes) (omega arith)
    ∙ sym (drop-drop 8 (8 * i) bytes) in
    append_assoc (take 8 (drop (8 * i) bytes)) _ _ ∙ ap (λ r. take 8 (drop (8 * i) bytes) ++ r) rest ∙ take-append-drop 8 (drop (8 * i) bytes)

module _ (bytes : List ℕ) (b : Bytes bytes) (e : length bytes ≡ 64) where
  all_parts : bytes ≡ gather (λ k. take 8 (drop (8 * k) bytes)) (run (λ k. k) 0 8)
  all_parts =
      let none : drop (8 * (0 + 8)) bytes ≡ [] = drop_of_length-le bytes {i = 8 * (0 + 8)} (omega (arith, e)) in
      sym (parts bytes 0 8) ∙ rw none (append-nil (gather (λ k. take 8 (drop (8 * k) bytes)) (run (λ k. k) 0 8)))

  part : (k : ℕ) → k < 8 → (z : ℤ) → signed_word bytes (8 * k) ≡ z → take 8 (drop (8 * k) bytes) ≡ bytes_of 8 (twos_complement z)
  part k h z is = sym (signed_word_bytes bytes (8 * k) b (omega (arith, e))) ∙ ap (λ z. bytes_of 8 (twos_complement z)) is

  pub bytes_back : (f : Figures) → record_of bytes ≡ words f → bytes ≡ result_bytes f
  unfolding gather run
  bytes_back f r =
      all_parts
      ∙ rw (
        part 0 (omega arith) f.total (ap (λ r. r.total) r),
        part 1 (omega arith) f.settled (ap (λ r. r.settled) r),
        part 2 (omega arith) (pos f.shortfall) (ap (λ r. r.shortfall) r),
        part 3 (omega arith) (pos f.expected) (ap (λ r. r.expected) r),
        part 4 (omega arith) (pos f.kept) (ap (λ r. r.kept) r),
        part 5 (omega arith) (pos f.surplus) (ap (λ r. r.surplus) r),
        part 6 (omega arith) (pos f.points) (ap (λ r. r.points) r),
        part 7 (omega arith) (pos (cond f.bid 1 0)) (ap (λ r. r.bid) r),
      )

-- ---- a state that gives it

none_so_large : (limit : ℕ) (zs : List ℤ) → ((i : ℕ) → nat_abs (get_or zs i (pos 0)) ≤ limit) → any (is_beyond limit) zs ≡ false
unfolding any
none_so_large limit [] h = refl
none_so_large limit (z ∷ zs) h = rw (le-ltb limit (nat_abs z) (h 0)) (none_so_large limit zs λ i. h (suc i))

module _ (r : Record) (k : Kept counts r) (s : Shown r) (t : Six (most_result * or_zero r.points) r.total) where
  -- of 2024-08-07, no losses, no marks, as many points as the record has
  pub state_of : State
  state_of = record {
    head = record { year = 2024; month = 8; day = 7; slot = 26; losses = replicate 3 0; contract = s.contract; count = or_zero r.points };
    marks = replicate days_back 0;
    points = or_zero r.points;
    totals = t.totals;
    last = replicate number_length digit0;
  }

  content : content_refusal state_of.head state_of.marks ≡ 0
  unfolding state_of content_refusal is_date day_count sum any
  content = rw (s.allowed, le-leb 1 (or_zero r.points) k.least, le-leb (or_zero r.points) 10_000 k.most)

  totals_small : any (is_beyond (most_result * or_zero r.points)) t.totals ≡ false
  totals_small = none_so_large (most_result * or_zero r.points) t.totals t.small

  last_allowed : (ltb 0 (or_zero r.points) && not (is_number (replicate number_length digit0))) ≡ false
  unfolding is_number digits same
  last_allowed = and_right (ltb 0 (or_zero r.points)) false refl

  state_sound : Sound state_of
  unfolding state_of
  state_sound = record { content = content; room = omega arith; totals = totals_small; last = last_allowed }

  pub state_accepted : (close_of state_of).refusal ≡ 0
  unfolding state_of
  state_accepted = close_refusal state_of ∙ closing_sound state_of state_sound ∙ rw (le-ltb (or_zero r.points) (or_zero r.points) (omega arith))

  pub state_whole : Whole state_of
  unfolding state_of
  state_whole = record { totals = t.six; marks = refl; losses = refl; last = refl }

  pub state_words : r ≡ words (close_of state_of).figures
  unfolding state_of
  state_words = figures_shown r k s t.totals t.sum ∙ ap words (sym (closing_figures state_of state_accepted))

-- ---- the statements

pub closings_pass : ClosingsPass
closings_pass state six accepted =
    let keeps = closing_keeps state accepted six in
    let f = (close_of state).figures in
    rw (words_back f (small counts (omega arith) (words f) (kept counts (words f) keeps))) keeps

pub records_are_results : RecordsAreResults
records_are_results bytes b e = (there, back)
  where
    there : breaks_rule (record_of bytes) ≡ false → IsResult bytes
    there keeps =
        let r = record_of bytes in
        let k = kept counts r keeps in
        let s = shown r k in
        let t = six_of (most_result * or_zero r.points) r.total (omega (arith, k.total)) in
        record {
          state = state_of r k s t;
          whole = state_whole r k s t;
          accepted = state_accepted r k s t;
          is = bytes_back bytes b e (close_of (state_of r k s t)).figures (state_words r k s t);
        }

    back : IsResult bytes → breaks_rule (record_of bytes) ≡ false
    back is = rw is.is (closings_pass is.state is.whole.totals is.accepted)
