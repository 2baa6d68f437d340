-- Every settled book passes: what it closes has six slot totals. Assumes nothing.
use mathlib.Core.Path.{◌≡◌, refl, sym, ap, subst, ◌∙◌}
use mathlib.Core.Bool.{false}
use mathlib.Core.List.{List}
use Prim.Native.Nat.{ℕ}
use native.Mathlib.Decide.{ℕ_discrete}
use lib.ListN.{length}
use Rattle.figures.proofs.SlotTotals.{plus_length}
use Rattle.results.proofs.Bounds.{six_results}
use Rattle.points.specs.Points.{kind_of}
use Rattle.ledger.specs.States.{slot_totals, taken}
use Rattle.ledger.specs.Operations.{open_of, results_of, add_of, close_of}
use Rattle.ledger.specs.declared.State.{State}
use Rattle.ledger.proofs.Sound.{open_refusal, open_good, add_refusal, add_good}
use Rattle.ledger.proofs.AddSteps.{accepted}
use Rattle.book.specs.Reading.{good, Points, Book, read_book}
use Rattle.book.specs.Endings.{book_ending, closed_after}
use Rattle.book.specs.Settling.{closing_of, result_bytes, settling_result}
use Rattle.book.proofs.Readings.{Points-read, none, more, book_read}
use Rattle.book.proofs.Endings.{closed_reads, all_settled, not_settled}
use Rattle.records.specs.Records.{record_of}
use Rattle.records.specs.Rules.{breaks_rule}
use Rattle.record_claims.specs.Results.{BooksPass}
use Rattle.record_claims.proofs.Results.{closings_pass}

module _ (state : State) (tag : ℕ) (value : List ℕ) (six : length (slot_totals state) ≡ 6) where
  add_six : (add_of state tag value 6).refusal ≡ 0 → length (slot_totals (add_of state tag value 6).state) ≡ 6
  unfolding taken
  add_six e =
      let a = sym (add_refusal state tag value 6) ∙ e in
      let found = six_results state.head state.marks (kind_of tag) value (accepted state tag value 6 a).given.known in
      rw (add_good state tag value 6 a) (plus_length (slot_totals state) (results_of state tag value) (six ∙ sym found) ∙ six)

points_six : {n : ℕ} {state : State} {left : List ℕ} {x : Points} → Points-read n state left x → length (slot_totals state) ≡ 6 → length (slot_totals x.state) ≡ 6
points_six (none e) six = six
points_six (more {state = state} {part = part} cut e read) six = points_six read (add_six state part.point.tag part.point.value six e)

book_six : (book : List ℕ) (r : Book) → read_book book ≡ good r → length (slot_totals r.state) ≡ 6
book_six book r e =
    let k = book_read book r e in
    let head = k.head.point.value in
    let calendar = k.calendar.point.value in
    let opened = open_good head calendar (sym (open_refusal head calendar) ∙ k.opens) in
    let six : length (slot_totals (open_of head calendar).state) ≡ 6 = rw opened refl in
    rw k.is (points_six k.points_read six)

pub books_pass : BooksPass
books_pass book result long e = go (ℕ_discrete (closing_of book).refusal 0)
  where
    go : Dec ((closing_of book).refusal ≡ 0) → breaks_rule (record_of (settling_result book result)) ≡ false
    go (no n) = absurd (n ((not_settled book result long n).0 ∙ e))
    go (yes z) =
        let read = closed_reads book z in
        let same : closing_of book ≡ close_of read.0.state = ap (λ reading. closed_after (book_ending reading)) read.1 in
        let passes = closings_pass read.0.state (book_six book read.0 read.1) (ap (λ c. c.refusal) (sym same) ∙ z) in
        let left : settling_result book result ≡ result_bytes (close_of read.0.state).figures =
        sym (all_settled book result long z).1 ∙ ap (λ c. result_bytes c.figures) same in
        subst (λ bytes. breaks_rule (record_of bytes) ≡ false) (sym left) passes
