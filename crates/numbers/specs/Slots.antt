-- Slots and days (document 01, 'What the ledger settles' and 'Days').
use Rattle.std.specs.Prelude.{List, ℕ, replicate}

-- 'A slot is a half-hour; slot i of a day, 0 to 47'
abbrev pub slots_of_day : ℕ
slots_of_day = 48

-- 'Day k back, k from 1 to 30'
abbrev pub days_back : ℕ
days_back = 30

-- 'the four chosen days'
abbrev pub days_used : ℕ
days_used = 4

-- CR 2: 'four zeros', where there are no chosen days to tell
abbrev pub no_days : List ℕ
no_days = replicate days_used 0

-- 'The window is slots s to s+5'
abbrev pub window_slots : ℕ
window_slots = 6
