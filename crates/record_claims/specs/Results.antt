-- A RECORD KEEPS THE RULES (CR 4) exactly where its 64 bytes are the result of an accepted closing.
use Rattle.std.specs.Prelude.{◌≡◌, ◌↔◌, false, List, ℕ, length}
use Rattle.numbers.specs.Slots.{days_back, window_slots}
use Rattle.numbers.specs.PointNumbers.{number_length}
use Rattle.numbers.specs.Words.{Bytes}
use Rattle.ledger.specs.States.{slot_totals}
use Rattle.ledger.specs.Operations.{close_of}
use Rattle.ledger.specs.declared.State.{State}
use Rattle.book.specs.Settling.{result_length, result_bytes, settling_refusal, settling_result}
use Rattle.records.specs.Records.{record_length, record_of}
use Rattle.records.specs.Rules.{breaks_rule}

-- a state as its type has it, with arrays of their lengths
pub record Whole (state : State) : Type 0 where
  pub totals : length (slot_totals state) ≡ window_slots
  pub marks : length state.marks ≡ days_back
  pub losses : length state.head.losses ≡ 3
  pub last : length state.last ≡ number_length

-- bytes that hold the figures of an accepted closing: of a state that 9 and 20 do not refuse, and so of an allowed contract, of points from 1
-- on and of six slot totals within their limit
pub record IsResult (bytes : List ℕ) : Type 0 where
  pub state : State
  pub whole : Whole state
  pub accepted : (close_of state).refusal ≡ 0
  pub is : bytes ≡ result_bytes (close_of state).figures

-- RECORDS ARE RESULTS: the rules are those of closing that one record shows, all of them and no more
abbrev pub RecordsAreResults : Type 0
RecordsAreResults = (bytes : List ℕ)
    → Bytes bytes
    → length bytes ≡ record_length
    → (breaks_rule (record_of bytes) ≡ false) ↔ IsResult bytes

-- EVERY CLOSING PASSES: no result of an accepted closing breaks a rule, whoever called it
abbrev pub ClosingsPass : Type 0
ClosingsPass = (state : State)
    → length (slot_totals state) ≡ window_slots
    → (close_of state).refusal ≡ 0
    → breaks_rule (record_of (result_bytes (close_of state).figures)) ≡ false

-- EVERY SETTLED BOOK PASSES: what Whole book leaves in the 64 bytes of a book that gives 0 is a record of a report
abbrev pub BooksPass : Type 0
BooksPass = (book result : List ℕ)
    → length result ≡ result_length
    → settling_refusal book (length result) ≡ 0
    → breaks_rule (record_of (settling_result book result)) ≡ false
