-- Result records (CR 4): the eight words that the 64 bytes of one hold, and the records of an input.
use Rattle.std.specs.Prelude.{◌≡◌, List, ℕ, ◌*◌, ◌/◌, ℤ, length, take, drop, All}
use Rattle.numbers.specs.Lists.{run, gather}
use Rattle.integers.specs.Integers.{signed_word}
use Rattle.records.specs.declared.Record.{Record}

-- 'result records of 64 bytes'
abbrev pub record_length : ℕ
record_length = 64

-- 'eight signed 8-byte words (two's complement, high byte first)': word k of a record, from 0
abbrev pub word : ℕ → List ℕ → ℤ
word k bytes = signed_word bytes (8 * k)

-- 'total, settled, shortfall, expected, kept, surplus, points, bid'
abbrev pub record_of : List ℕ → Record
record_of bytes = record {
  total = word 0 bytes;
  settled = word 1 bytes;
  shortfall = word 2 bytes;
  expected = word 3 bytes;
  kept = word 4 bytes;
  surplus = word 5 bytes;
  points = word 6 bytes;
  bid = word 7 bytes;
}

-- the bytes of the record at a place, counted from 0
abbrev pub bytes_at : List ℕ → ℕ → List ℕ
bytes_at bytes place = take record_length (drop (record_length * place) bytes)

-- how many records an input holds
abbrev pub record_count : List ℕ → ℕ
record_count bytes = length bytes / record_length

-- the records of an input, in their order
unfoldable pub records_of : List ℕ → List Record
records_of bytes = run (λ place. record_of (bytes_at bytes place)) 0 (record_count bytes)

-- an input that is made of records, one behind the other: the statements speak of it so, and not of places in its bytes
pub record MadeOf (bytes : List ℕ) (parts : List (List ℕ)) : Type 0 where
  pub whole : bytes ≡ gather (λ part. part) parts
  pub each : All (λ part. length part ≡ record_length) parts
