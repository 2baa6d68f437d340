-- What settle_book prints (document 01, example M): the lines of the figures of a settled book (figure_lines); 'a refused book prints one
-- line'.
use Rattle.std.specs.Prelude.{◌≡◌, cond, List, ℕ, ◌≤◌, eqb, length}
use Rattle.ledger.specs.States.{slot_totals}
use Rattle.ledger.specs.declared.State.{State}
use Rattle.ledger.specs.Operations.{Closed}
use Rattle.figures.specs.declared.Figures.{Figures}
use Rattle.book.specs.Reading.{good, Book, read_book}
use Rattle.book.specs.Endings.{book_ending, closed_after}
use Rattle.book.specs.Settling.{result_length, result_bytes, settling_refusal, settling_result}
use Rattle.book.specs.Endings.{Ending}
use Rattle.feeding.specs.Feeding.{start_of, fed, ending_fed, most_feedings}
use Rattle.lines.specs.Numerals.{decimal}
use Rattle.lines.specs.Line.{line}
use Rattle.figure_lines.specs.FigureLines.{figure_lines}

-- with the date and the slot totals of a state
abbrev pub settled_text : State → Figures → List ℕ
settled_text state figures = figure_lines state.head (slot_totals state) figures

abbrev pub refused_text : ℕ → List ℕ
refused_text refusal = line "refused " (decimal refusal)

-- by what closing answers
abbrev pub text_by : State → Closed → List ℕ
text_by state closed = cond (eqb closed.refusal 0) (settled_text state closed.figures) (refused_text closed.refusal)

-- THE TEXT of a book whose reading has ended: a refusal, of the reading or of closing, leaves no figures to print
unfoldable pub text_of : Ending → List ℕ
text_of ending = text_by ending.state (closed_after ending)

-- the text of a book
abbrev pub book_text : List ℕ → List ℕ
book_text book = text_of (book_ending (read_book book))

-- THE TEXT TELLS what Whole book answers: `refused N` with its number N, or the figures whose words it writes, with the date and the slot
-- totals of the state after the last point
pub record Tells (book result : List ℕ) : Type 0 where
  pub refused : (settling_refusal book (length result) ≡ 0 → ⊥) → book_text book ≡ refused_text (settling_refusal book (length result))
  pub settled : settling_refusal book (length result) ≡ 0
      → (r : Book)
      × (figures : Figures)
      × (read_book book ≡ good r)
      × (book_text book ≡ settled_text r.state figures)
      × (settling_result book result ≡ result_bytes figures)

abbrev pub TextTells : Type 0
TextTells = (book result : List ℕ) → length result ≡ result_length → Tells book result

-- PRINTED FIELD BY FIELD: a book that is fed so has the text of the whole book
abbrev pub PrintedFieldByField : Type 0
PrintedFieldByField = (book : List ℕ) (n : ℕ) → most_feedings ≤ n → text_of (ending_fed (fed n start_of book)) ≡ book_text book
