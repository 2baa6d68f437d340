-- The text in each of its two cases, and what Whole book answers. Assumes nothing.
use mathlib.Core.Path.{◌≡◌, sym, ap, ◌∙◌}
use mathlib.Core.List.{List}
use Prim.Native.Nat.{ℕ}
use borrow.Author.Tests.{eq-eqb, ne_eqb}
use lib.ListN.{length}
use Rattle.book.specs.Reading.{read_book}
use Rattle.book.specs.Endings.{book_ending, closed_after}
use Rattle.book.specs.Settling.{closing_of, result_length, settling_refusal}
use Rattle.book.specs.Endings.{Ending}
use Rattle.book.proofs.Endings.{closed_reads, all_settled}
use Rattle.printing.specs.Printed.{settled_text, refused_text, text_of, TextTells}

module _ (ending : Ending) where
  pub text_refused : ((closed_after ending).refusal ≡ 0 → ⊥) → refused_text (closed_after ending).refusal ≡ text_of ending
  unfolding text_of
  text_refused n = simp (ne_eqb _ _ n)

  pub text_settled : (closed_after ending).refusal ≡ 0 → settled_text ending.state (closed_after ending).figures ≡ text_of ending
  unfolding text_of
  text_settled e = simp (eq-eqb _ _ e)

-- ---- the text of a book, and what Whole book answers

number_is : (book result : List ℕ) → length result ≡ result_length → settling_refusal book (length result) ≡ (closing_of book).refusal
unfolding settling_refusal
number_is book result room = rw room

pub text_tells : TextTells
text_tells book result room =
    let ending = book_ending (read_book book) in
    let number = number_is book result room in
    let figures = (closing_of book).figures in
    record {
      refused = λ n. sym (text_refused ending (rw number at n)) ∙ ap refused_text (sym number);
      settled = λ z.
          let closed = sym number ∙ z in
          let read = closed_reads book closed in
          let text = sym (text_settled ending closed) ∙ ap (λ reading. settled_text (book_ending reading).state figures) read.1 in
          (read.0, figures, read.1, text, sym (all_settled book result room closed).1);
    }
