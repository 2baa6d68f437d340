-- Readings as arrays of four bytes: laid over each other, they show whether they are small; the first too large one. Assumes nothing.
use mathlib.Core.Bool.{Bool, true, false, cond, not, ◌&&◌, false≢true}
use mathlib.Core.List.{List, [], ◌∷◌}
use mathlib.Core.Path.{◌≡◌, refl, ap}
use Prim.Native.Nat.{ℕ, zero, suc, ◌+◌, ◌%◌, ◌<◌, ◌≤◌}
use native.Mathlib.Omega.{arith}
use borrow.Author.Tests.{le-ltb, leb-true}
use lib.Bits.{bit_or, or_add_and, and_le_r, or_comm, or_mod}
use lib.Dec.{ltb, leb}
use lib.ListN.{length, get_or, take, drop}
use lib.Seq.{get_or-take, get_or-drop}
use mir.Syntax.{w32}
use Rattle.std.specs.Int.{from_le_bytes}
use Rattle.std.specs.List.{fold, All, position_or_len}
use Rattle.std.specs.Simd.{first_chunks}
use Rattle.std.proofs.lemmas.List.Elements.{All-cons}
use Rattle.numbers.specs.Words.{word32, Bytes}
use Rattle.readings.specs.Readings.{most_reading, first_large}

-- a reading whose high byte, its first, is below 32
abbrev pub Small : List ℕ → Type 0
Small reading = get_or reading 0 0 % 256 < 32

or_above : (a b : ℕ) → a ≤ bit_or a b
or_above a b = omega (arith, or_add_and a b, and_le_r a b)

or_low : (a b : ℕ) → (a % 256 ≤ bit_or a b % 256) × (b % 256 ≤ bit_or a b % 256)
or_low a b = (
  omega (arith, or_mod a b 8, or_above (a % 256) (b % 256)),
  omega (arith, or_mod a b 8, or_above (b % 256) (a % 256), or_comm (a % 256) (b % 256)),
)

-- readings laid over a number
pub each_small : (readings : List (List ℕ)) (all : ℕ) → fold (λ over reading. bit_or over (from_le_bytes w32 reading)) all readings % 256 < 32
    → (all % 256 < 32) × All Small readings
each_small [] all h = (h, λ k d l. absurd (omega arith))
each_small (reading ∷ readings) all h =
    let x = from_le_bytes w32 reading in
    let later = each_small readings (bit_or all x) h in
    let both = or_low all x in
    (omega (arith, later.0, both), All-cons Small reading readings (omega (arith, later.0, both)) later.1)

-- whether a reading is too large
abbrev pub is_large : List ℕ → Bool
is_large reading = ltb most_reading (word32 reading 0)

-- the first four bytes are the first reading
first_word : (readings : List ℕ) → word32 (take 4 readings) 0 ≡ word32 readings 0
first_word readings =
    let at = λ (k : ℕ) (h : k < 4). get_or-take 4 readings k 0 h in
    omega (arith, at 0 (omega arith), at 1 (omega arith), at 2 (omega arith), at 3 (omega arith))

-- there are n arrays of the first n readings
pub chunks_length : (n : ℕ) (readings : List ℕ) → length (first_chunks 4 n readings) ≡ n
chunks_length zero readings = refl
chunks_length (suc n) readings = ap suc (chunks_length n (drop 4 readings))

-- the first that is too large, as it is looked for
pub counted : (n : ℕ) (readings : List ℕ) → position_or_len is_large (first_chunks 4 n readings) ≡ first_large readings n
unfolding first_large
counted zero readings = refl
counted (suc n) readings = rw first_word (go (ltb most_reading (word32 readings 0)) (counted n (drop 4 readings)))
  where
    go : (large : Bool) {p q : ℕ} → p ≡ q → cond (not large) (1 + p) 0 ≡ cond large 0 (suc q)
    go true e = refl
    go false e = omega (arith, e)

-- readings none of which is too large since their high bytes are small
pub none_of_small : (n : ℕ) (readings : List ℕ) → Bytes readings → All Small (first_chunks 4 n readings) → first_large readings n ≡ n
unfolding first_large
none_of_small zero readings bytes small = refl
none_of_small (suc n) readings bytes small =
    let high : get_or (take 4 readings) 0 0 ≡ get_or readings 0 0 = get_or-take 4 readings 0 0 (omega arith) in
    let low : word32 readings 0 ≤ most_reading = omega (arith, small 0 [] (omega arith), bytes 0, bytes 1, bytes 2, bytes 3) in
    let later = none_of_small n (drop 4 readings) (λ i. rw get_or-drop (bytes (4 + i))) (λ k d h. small (suc k) d (omega arith)) in
    rw (le-ltb _ _ low) (ap suc later)

and-true : (a b : Bool) → a && b ≡ true → (a ≡ true) × (b ≡ true)
and-true true b e = (refl, e)
and-true false b e = absurd (false≢true e)

-- readings each of which is within the limit
abbrev pub Within : List ℕ → Type 0
Within reading = word32 reading 0 ≤ most_reading

pub each_within : (readings : List (List ℕ)) (all : Bool) → fold (λ within reading. within && leb (word32 reading 0) most_reading) all readings ≡ true
    → (all ≡ true) × All Within readings
each_within [] all h = (h, λ k d l. absurd (omega arith))
each_within (reading ∷ readings) all h =
    let later = each_within readings (all && leb (word32 reading 0) most_reading) h in
    let both = and-true all (leb (word32 reading 0) most_reading) later.0 in
    (both.0, All-cons Within reading readings (leb-true _ _ both.1) later.1)

pub none_of_within : (n : ℕ) (readings : List ℕ) → All Within (first_chunks 4 n readings) → first_large readings n ≡ n
unfolding first_large
none_of_within zero readings within = refl
none_of_within (suc n) readings within =
    let low : word32 readings 0 ≤ most_reading = rw first_word at (within 0 [] (omega arith)) in
    let later = none_of_within n (drop 4 readings) (λ k d h. within (suc k) d (omega arith)) in
    rw (le-ltb _ _ low) (ap suc later)
