-- Reading a whole book (document 01, 'Whole book'), field by field.
use Rattle.std.specs.Prelude.{cond, List, [], ◌∷◌, ℕ, zero, suc, eqb, length}
use Rattle.numbers.specs.Slots.{window_slots}
use Rattle.points.specs.Points.{Point}
use Rattle.ledger.specs.Operations.{open_of, add_of}
use Rattle.ledger.specs.declared.State.{State}
use Rattle.fields.specs.Fields.{Field, Value, Refused, field_of, value_in, behind}
use Rattle.fields.specs.declared.Due.{Due}
use Rattle.fields.specs.declared.Due.TheVariants as due

-- A refusal ends the reading; a good step hands something on.
pub data Reading (A : Type 0) : Type 0 where
  refused : ℕ → Reading A
  good : A → Reading A

infixl 10 ◌>>=◌
abbrev pub ◌>>=◌ : {A B : Type 0} → Reading A → (A → Reading B) → Reading B
refused n >>= rest = refused n
good a >>= rest = rest a

-- 0 is accepted
abbrev pub unless : {A : Type 0} → ℕ → A → Reading A
unless refusal a = cond (eqb refusal 0) (good a) (refused refusal)

-- what is handed on of a field
pub record Part : Type 0 where
  pub point : Point
  pub left : List ℕ

abbrev pub handed_on : List ℕ → Field → Reading Part
handed_on left (Value tag size) = good (record { point = record { tag = tag; value = value_in size left }; left = behind size left })
handed_on left (Refused refusal) = refused refusal

abbrev pub field : Due → List ℕ → Reading Part
field kind left = handed_on left (field_of kind left)

abbrev pub open_test : List ℕ → List ℕ → Reading State
open_test head calendar = unless (open_of head calendar).refusal (open_of head calendar).state

-- the six places are the reader's own
abbrev pub add_point : State → Point → Reading State
add_point state p = unless (add_of state p.tag p.value window_slots).refusal (add_of state p.tag p.value window_slots).state

-- the points of a book, and the state after them
pub record Points : Type 0 where
  pub points : List Point
  pub state : State

abbrev pub before : Point → Points → Points
before p rest = record { points = p ∷ rest.points; state = rest.state }

-- n points are due; 42: bytes after the last point
unfoldable pub read_points : ℕ → State → List ℕ → Reading Points
read_points zero state left = cond (eqb (length left) 0) (good (record { points = []; state = state })) (refused 42)
read_points (suc n) state left = do
  part ← field due.Point left
  next ← add_point state part.point
  rest ← read_points n next part.left
  good (before part.point rest)

-- 'What a book reads back to': the values handed on, in their order
pub record Contents : Type 0 where
  pub head : List ℕ
  pub calendar : List ℕ
  pub points : List Point

-- with the state after them
pub record Book : Type 0 where
  pub contents : Contents
  pub state : State

abbrev pub book_of : List ℕ → List ℕ → Points → Book
book_of head calendar rest = record { contents = record { head = head; calendar = calendar; points = rest.points }; state = rest.state }

unfoldable pub read_book : List ℕ → Reading Book
read_book book = do
  head ← field due.Head book
  calendar ← field due.Calendar head.left
  state ← open_test head.point.value calendar.point.value
  rest ← read_points state.head.count state calendar.left
  good (book_of head.point.value calendar.point.value rest)
