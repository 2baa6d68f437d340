-- 17 'IS NO LONGER GIVEN' (CR 3): by no operation, whatever it is handed.
use Rattle.std.specs.Prelude.{◌≡◌, List, ℕ}
use Rattle.ledger.specs.Operations.{open_of, add_of, close_of}
use Rattle.ledger.specs.declared.State.{State}
use Rattle.writing.specs.Writing.{head_writing_refusal, point_writing_answer}
use Rattle.book.specs.Settling.{settling_refusal}

pub record NoSeventeen : Type 0 where
  pub opening : (head calendar : List ℕ) → (open_of head calendar).refusal ≡ 17 → ⊥
  pub adding : (state : State) (tag : ℕ) (value : List ℕ) (places : ℕ) → (add_of state tag value places).refusal ≡ 17 → ⊥
  pub closing : (state : State) → (close_of state).refusal ≡ 17 → ⊥
  pub writing_head : (head calendar : List ℕ) (room : ℕ) → head_writing_refusal head calendar room ≡ 17 → ⊥
  pub writing_point : (tag : ℕ) (value : List ℕ) (room : ℕ) → (point_writing_answer tag value room).number ≡ 17 → ⊥
  pub whole_book : (book : List ℕ) (room : ℕ) → settling_refusal book room ≡ 17 → ⊥
