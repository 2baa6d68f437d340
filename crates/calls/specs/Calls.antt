-- A sequence of calls on one test, and what the program answers to each (document 01, 'Closing figures').
use Rattle.std.specs.Prelude.{◌≡◌, Bool, false, cond, not, List, [], ◌∷◌, ◌++◌, ℕ, T, eqb}
use Rattle.numbers.specs.Lists.{any}
use Rattle.points.specs.Points.{Point}
use Rattle.ledger.specs.Operations.{open_of, add_of, close_of}
use Rattle.ledger.specs.declared.State.{State}
use Rattle.figures.specs.declared.Figures.{Figures}

-- A call after the opening. An adding is given a tag, a value and a number of lent places.
pub data Call : Type 0 where
  adding : ℕ → List ℕ → ℕ → Call
  closing : Call

-- what the program answers to a call
pub data Reply : Type 0 where
  refused : ℕ → Reply
  accepted : Reply
  closed : Figures → Reply

abbrev pub reply_of : ℕ → Reply → Reply
reply_of refusal reply = cond (eqb refusal 0) reply (refused refusal)

-- Each call gets 'the state that the opening or the last adding gave; a closing leaves it as it is'.
unfoldable pub replies : State → List Call → List Reply
replies state [] = []
replies state (adding tag value places ∷ calls) =
    reply_of (add_of state tag value places).refusal accepted ∷ replies (add_of state tag value places).state calls
replies state (closing ∷ calls) = reply_of (close_of state).refusal (closed (close_of state).figures) ∷ replies state calls

-- 'The sequence has one opening, at its start.'
unfoldable pub program : List ℕ → List ℕ → List Call → List Reply
program head calendar calls = reply_of (open_of head calendar).refusal accepted ∷ replies (open_of head calendar).state calls

-- the state after calls: a refused adding gives back the one that it was given
unfoldable pub state_after : State → List Call → State
state_after state [] = state
state_after state (adding tag value places ∷ calls) = state_after (add_of state tag value places).state calls
state_after state (closing ∷ calls) = state_after state calls

-- the point that a call takes: that of an adding which is accepted
abbrev pub point_of : Call → Reply → List Point
point_of (adding tag value places) accepted = record { tag = tag; value = value } ∷ []
point_of (adding tag value places) (refused refusal) = []
point_of (adding tag value places) (closed figures) = []
point_of closing reply = []

-- the points taken by calls, from what is answered to each
unfoldable pub points_taken : List Call → List Reply → List Point
points_taken [] replies = []
points_taken (call ∷ calls) [] = []
points_taken (call ∷ calls) (reply ∷ replies) = point_of call reply ++ points_taken calls replies

abbrev pub tells_nine : Reply → Bool
tells_nine (refused refusal) = eqb refusal 9
tells_nine accepted = false
tells_nine (closed figures) = false

-- NEVER NINE: after an accepted opening every call gets a state that 9 does not refuse
abbrev pub NeverNine : Type 0
NeverNine = (head calendar : List ℕ) → (open_of head calendar).refusal ≡ 0
    → (calls : List Call) → T (not (any tells_nine (program head calendar calls)))
