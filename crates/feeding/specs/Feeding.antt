-- A book that comes field by field. `due_of` says how many bytes are wanted next, and `feed_of` takes them: fewer mean that the book ends
-- there, and what lies behind the due ones is not looked at.
use Rattle.std.specs.Prelude.{◌≡◌, Bool, true, false, cond, List, ℕ, zero, suc, ◌+◌, ◌*◌, ◌<◌, ◌≤◌, ltb, eqb, length, take, drop, replicate}
use Rattle.numbers.specs.Slots.{window_slots}
use Rattle.heads.specs.Limits.{most_points}
use Rattle.heads.specs.Heads.{head_length}
use Rattle.ledger.specs.States.{no_state}
use Rattle.ledger.specs.Operations.{open_of, add_of}
use Rattle.ledger.specs.declared.State.{State}
use Rattle.fields.specs.Fields.{header_length, tag_at, length_due, header_refusal}
use Rattle.book.specs.Reading.{read_book}
use Rattle.book.specs.Endings.{book_ending}
use Rattle.fields.specs.declared.Due.{Due}
use Rattle.fields.specs.declared.Due.TheVariants.{Head, Calendar, Point}
use Rattle.book.specs.Endings.{Ending}
use Rattle.feeding.specs.declared.Wait.{Wait}
use Rattle.feeding.specs.declared.Wait.TheVariants.{Header, Value, End, Nothing}

-- How far a reading has come. The head is kept until the calendar comes; once nothing more is waited for, the refusal, or 0 and the state
-- after the last point.
pub record Progress : Type 0 where
  pub wait : Wait
  pub head : List ℕ
  pub state : State
  pub refusal : ℕ

-- how many bytes are due; at the end one byte more would be one too many
abbrev pub due_of : Wait → ℕ
due_of (Header due) = header_length
due_of (Value due tag) = length_due due tag
due_of End = 1
due_of Nothing = 0

abbrev pub is_over : Wait → Bool
is_over (Header due) = false
is_over (Value due tag) = false
is_over End = false
is_over Nothing = true

abbrev pub start_of : Progress
start_of = record { wait = Header Head; head = replicate head_length 0; state = no_state; refusal = 0 }

-- ---- a refusal ends the reading, and so does the end of the book

abbrev pub refused_at : ℕ → Progress → Progress
refused_at refusal p = record { wait = Nothing; head = p.head; state = no_state; refusal = refusal }

abbrev pub ended : Progress → Progress
ended p = record { wait = Nothing; head = p.head; state = p.state; refusal = 0 }

-- ---- a header

abbrev pub waiting : Wait → Progress → Progress
waiting wait p = record { wait = wait; head = p.head; state = p.state; refusal = 0 }

unfoldable pub header_fed : Due → Progress → List ℕ → Progress
header_fed due p bytes =
    cond (eqb (header_refusal due bytes) 0) (waiting (Value due (tag_at bytes)) p) (refused_at (header_refusal due bytes) p)

-- ---- a value

-- points are due until the count is reached
abbrev pub point_or_end : ℕ → ℕ → Wait
point_or_end points count = cond (ltb points count) (Header Point) End

abbrev pub at_points : State → Progress → Progress
at_points state p = record { wait = point_or_end state.points state.head.count; head = p.head; state = state; refusal = 0 }

-- what opening or adding answers
abbrev pub going : ℕ → State → Progress → Progress
going refusal state p = cond (eqb refusal 0) (at_points state p) (refused_at refusal p)

-- a whole value
abbrev pub got : Due → ℕ → Progress → List ℕ → Progress
got Head tag p value = record { wait = Header Calendar; head = value; state = p.state; refusal = 0 }
got Calendar tag p value = going (open_of p.head value).refusal (open_of p.head value).state p
got Point tag p value = going (add_of p.state tag value window_slots).refusal (add_of p.state tag value window_slots).state p

-- 31: value cut
unfoldable pub value_fed : Due → ℕ → Progress → List ℕ → Progress
value_fed due tag p bytes = cond (ltb (length bytes) (length_due due tag)) (refused_at 31 p) (got due tag p (take (length_due due tag) bytes))

-- 42: bytes after the last point
unfoldable pub end_fed : Progress → List ℕ → Progress
end_fed p bytes = cond (eqb (length bytes) 0) (ended p) (refused_at 42 p)

-- ---- feeding

abbrev pub fed_at : Wait → Progress → List ℕ → Progress
fed_at (Header due) p bytes = header_fed due p bytes
fed_at (Value due tag) p bytes = value_fed due tag p bytes
fed_at End p bytes = end_fed p bytes
fed_at Nothing p bytes = p

abbrev pub feed_of : Progress → List ℕ → Progress
feed_of p bytes = fed_at p.wait p bytes

-- n feedings, each of the bytes that come next
unfoldable pub fed : ℕ → Progress → List ℕ → Progress
fed zero p left = p
fed (suc n) p left = fed n (feed_of p left) (drop (due_of p.wait) left)

abbrev pub ending_fed : Progress → Ending
ending_fed p = record { refusal = p.refusal; state = p.state }

-- two feedings for the head, the calendar and each of at most so many points, and one for the end
abbrev pub most_feedings : ℕ
most_feedings = 2 * (2 + most_points) + 1

-- FIELD BY FIELD: a book that is fed so ends as the whole book does
abbrev pub FieldByField : Type 0
FieldByField = (book : List ℕ) (n : ℕ) → most_feedings ≤ n
    → ((fed n start_of book).wait ≡ Nothing) × (ending_fed (fed n start_of book) ≡ book_ending (read_book book))

-- only the due bytes are looked at
abbrev pub DueOnly : Type 0
DueOnly = (p : Progress) (left : List ℕ) → feed_of p (take (due_of p.wait) left) ≡ feed_of p left

-- fewer bytes than are due end the reading: what comes in parts is one book, cut into what was due each time
abbrev pub FewerEnd : Type 0
FewerEnd = (p : Progress) (bytes : List ℕ) → length bytes < due_of p.wait → (feed_of p bytes).wait ≡ Nothing
