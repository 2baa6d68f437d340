-- What the bytes of a call say: the table 'A state' of docs/VECTORS.md.
use Rattle.std.specs.Prelude.{List, ℕ, ◌*◌, ℤ, take, drop}
use Rattle.numbers.specs.Lists.{run}
use Rattle.numbers.specs.Words.{word32}
use Rattle.numbers.specs.Slots.{window_slots}
use Rattle.numbers.specs.PointNumbers.{number_length}
use Rattle.integers.specs.Integers.{signed_word}
use Rattle.heads.specs.Heads.{calendar_length, count_at, head_with}
use Rattle.heads.specs.declared.Head.{Head}
use Rattle.ledger.specs.declared.State.{State}

-- the i-th of signed numbers that follow each other
abbrev pub signed_in : List ℕ → ℕ → ℤ
signed_in bytes i = signed_word bytes (i * 8)

-- how many bytes a state has, and where the parts behind its head begin
abbrev pub state_length : ℕ
state_length = 123

abbrev pub marks_at : ℕ
marks_at = 19

abbrev pub taken_at : ℕ
taken_at = 49

abbrev pub totals_at : ℕ
totals_at = 53

abbrev pub last_at : ℕ
last_at = 101

-- the head of a state, with a count of four bytes
unfoldable pub head_in : List ℕ → Head
head_in bytes = head_with (word32 bytes count_at) bytes

unfoldable pub state_in : List ℕ → State
state_in bytes = record {
  head = head_in bytes;
  marks = take calendar_length (drop marks_at bytes);
  points = word32 bytes taken_at;
  totals = run (signed_in (take (window_slots * 8) (drop totals_at bytes))) 0 window_slots;
  last = take number_length (drop last_at bytes);
}
