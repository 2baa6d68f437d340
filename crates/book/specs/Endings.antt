-- How a reading ends: the refusal, or 0 and the state after the last point; and the closing after it. A refused reading gives the state of
-- zeros.
use Rattle.std.specs.Prelude.{cond, ℕ, eqb}
use Rattle.figures.specs.Figures.{no_figures}
use Rattle.ledger.specs.States.{no_state}
use Rattle.ledger.specs.Operations.{close_of}
use Rattle.ledger.specs.Operations.{Closed}
use Rattle.book.specs.Reading.{Reading, refused, good, Points, Book}
use Rattle.ledger.specs.declared.State.{State}

pub record Ending : Type 0 where
  pub refusal : ℕ
  pub state : State

abbrev pub refused_with : ℕ → Ending
refused_with refusal = record { refusal = refusal; state = no_state }

abbrev pub points_ending : Reading Points → Ending
points_ending (refused refusal) = refused_with refusal
points_ending (good rest) = record { refusal = 0; state = rest.state }

abbrev pub book_ending : Reading Book → Ending
book_ending (refused refusal) = refused_with refusal
book_ending (good book) = record { refusal = 0; state = book.state }

-- the reading's refusal, or what closing answers
abbrev pub closed_after : Ending → Closed
closed_after ending =
    cond (eqb ending.refusal 0) (close_of ending.state) (record { refusal = ending.refusal; figures = no_figures })
