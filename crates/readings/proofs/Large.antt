-- The first reading that is too large. Assumes nothing.
use mathlib.Core.Path.{◌≡◌, refl, sym, ap, ◌∙◌}
use mathlib.Core.Bool.{Bool, true, false, cond}
use mathlib.Core.List.{List, [], ◌∷◌}
use Prim.Native.Nat.{ℕ, zero, suc, ◌+◌, ◌-◌, ◌*◌, ◌<◌, ◌≤◌}
use native.Mathlib.Nat.{zero-add, add-zero, add_assoc, suc-add}
use native.Mathlib.Omega.{arith}
use lib.Dec.{ltb}
use lib.ListN.{length, take, drop}
use lib.Seq.{drop-drop, get_or-drop}
use borrow.Author.Tests.{lt-ltb, le-ltb, ltb-true, ltb-false}
use Rattle.numbers.specs.Words.{word32}
use Rattle.readings.specs.Readings.{most_reading, reading_length, first_large}

pub first_bound : (readings : List ℕ) (n : ℕ) → first_large readings n ≤ n
unfolding first_large
first_bound readings zero = omega arith
first_bound readings (suc n) = go (ltb most_reading (word32 readings 0)) (first_bound (drop reading_length readings) n)
  where
    go : (t : Bool) → first_large (drop reading_length readings) n ≤ n → cond t 0 (suc (first_large (drop reading_length readings) n)) ≤ suc n
    go true h = omega arith
    go false h = omega arith

module _ (readings : List ℕ) where
  word_from : (at : ℕ) → word32 (drop at readings) 0 ≡ word32 readings at
  word_from at = simp (get_or-drop, add-zero, add_assoc)

  -- the n readings from reading i on
  abbrev pub from : ℕ → ℕ → ℕ
  from i n = first_large (drop (i * reading_length) readings) n

  pub stop : (i n : ℕ) → most_reading < word32 readings (i * reading_length) → from i (suc n) ≡ 0
  unfolding first_large
  stop i n h = rw (word_from (i * reading_length), lt-ltb _ _ h)

  pub pass : (i n : ℕ) → word32 readings (i * reading_length) ≤ most_reading → from i (suc n) ≡ suc (from (i + 1) n)
  unfolding first_large
  pass i n h =
      let e : i * reading_length + reading_length ≡ (i + 1) * reading_length = omega arith in
      rw (word_from (i * reading_length), le-ltb _ _ h, drop-drop reading_length (i * reading_length) readings, e)

  fits : (i n : ℕ) → from i (suc n) ≡ suc n → (word32 readings (i * reading_length) ≤ most_reading) × (from (i + 1) n ≡ n)
  fits i n e = go (ltb most_reading (word32 readings (i * reading_length))) refl
    where
      go : (t : Bool) → ltb most_reading (word32 readings (i * reading_length)) ≡ t → (word32 readings (i * reading_length) ≤ most_reading) × (from (i + 1) n ≡ n)
      go true p = absurd (omega (arith, stop i n (ltb-true _ _ p)))
      go false p = let h = ltb-false _ _ p in (h, omega (arith, pass i n h))

  -- k readings that fit are passed together
  pub pass_all : (k i n : ℕ) → from i k ≡ k → from i (k + n) ≡ k + from (i + k) n
  pass_all zero i n e = rw (zero-add, add-zero, zero-add)
  pass_all (suc k) i n e =
      let f = fits i k e in
      let j : i + 1 + k ≡ i + suc k = omega arith in
      rw (suc-add, suc-add) (pass i (k + n) f.0 ∙ ap suc (pass_all k (i + 1) n f.1 ∙ rw j))

  -- and with those behind them
  pub join : (k n i : ℕ) → from i k ≡ k → from (i + k) n ≡ n → from i (k + n) ≡ k + n
  join k n i e f = pass_all k i n e ∙ ap (λ m. k + m) f

  -- one that is found among the first k
  pub found_within : (k i n : ℕ) → from i k < k → from i (k + n) ≡ from i k
  found_within zero i n h = absurd (omega arith)
  found_within (suc k) i n h = go (ltb most_reading (word32 readings (i * reading_length))) refl (found_within k (i + 1) n)
    where
      go : (t : Bool) → ltb most_reading (word32 readings (i * reading_length)) ≡ t → (from (i + 1) k < k → from (i + 1) (k + n) ≡ from (i + 1) k)
          → from i (suc k + n) ≡ from i (suc k)
      go true p r = let l = ltb-true _ _ p in rw suc-add (stop i (k + n) l ∙ sym (stop i k l))
      go false p r =
          let l = ltb-false _ _ p in
          rw suc-add (pass i (k + n) l ∙ ap suc (r (omega (arith, pass i k l))) ∙ sym (pass i k l))

  -- a loop's turn: what is left of n readings
  module _ (i n : ℕ) where
    pub left_pass : (k : ℕ) → i + k ≤ n → from i k ≡ k → i + from i (n - i) ≡ i + k + from (i + k) (n - (i + k))
    left_pass k h e =
        let m : n - i ≡ k + (n - (i + k)) = omega arith in
        rw (m, pass_all k i (n - (i + k)) e) (omega arith)

    pub left_stop : i < n → most_reading < word32 readings (i * reading_length) → i + from i (n - i) ≡ i
    left_stop h l = let m : n - i ≡ suc (n - i - 1) = omega arith in rw (m, stop i (n - i - 1) l) (add-zero i)

    -- a loop's turn that looks at k readings one by one
    pub left_none_in : (k found : ℕ) → found ≡ i + from i (i + k - i) → i + k ≤ found → from i k ≡ k
    left_none_in k found e h =
        let m : i + k - i ≡ k = omega arith in
        omega (arith, first_bound (drop (i * reading_length) readings) k, rw m at e)

    pub left_found_in : (k found : ℕ) → found ≡ i + from i (i + k - i) → found < i + k → i + k ≤ n → i + from i (n - i) ≡ found
    left_found_in k found e h l =
        let m : i + k - i ≡ k = omega arith in
        let f : found ≡ i + from i k = rw m at e in
        let t : n - i ≡ k + (n - (i + k)) = omega arith in
        rw (t, found_within k i (n - (i + k)) (omega arith)) (omega arith)

    pub left_none : n ≤ i → i + from i (n - i) ≡ i
    unfolding first_large
    left_none h = let m : n - i ≡ 0 = omega arith in rw m (add-zero i)

  pub one_fits : (i : ℕ) → word32 readings (i * reading_length) ≤ most_reading → from i 1 ≡ 1
  unfolding first_large
  one_fits i h = pass i 0 h

  in_limit : (n i j : ℕ) → from i n ≡ n → j < n → word32 readings ((i + j) * reading_length) ≤ most_reading
  in_limit zero i j e h = absurd (omega arith)
  in_limit (suc n) i zero e h = rw add-zero (fits i n e).0
  in_limit (suc n) i (suc j) e h =
      let k : i + 1 + j ≡ i + suc j = omega arith in
      rw k at (in_limit n (i + 1) j (fits i n e).1 (omega arith))

  -- WHAT NO TOO LARGE READING MEANS: each is within the limit.
  pub none_large : (n i : ℕ) → first_large readings n ≡ n → i < n → word32 readings (i * reading_length) ≤ most_reading
  none_large n i e h = rw zero-add at (in_limit n 0 i e h)

  found_large : (n i : ℕ) → from i n < n → most_reading < word32 readings ((i + from i n) * reading_length)
  found_large zero i h = absurd (omega arith)
  found_large (suc n) i h = go (ltb most_reading (word32 readings (i * reading_length))) refl (found_large n (i + 1))
    where
      go : (t : Bool) → ltb most_reading (word32 readings (i * reading_length)) ≡ t
          → (from (i + 1) n < n → most_reading < word32 readings ((i + 1 + from (i + 1) n) * reading_length))
          → most_reading < word32 readings ((i + from i (suc n)) * reading_length)
      go true p r = let l = ltb-true _ _ p in rw (stop i n l, add-zero) l
      go false p r =
          let next = pass i n (ltb-false _ _ p) in
          let k : i + 1 + from (i + 1) n ≡ i + suc (from (i + 1) n) = omega arith in
          rw (next, ← k) (r (omega (arith, next)))

  small_before : (n i j : ℕ) → j < from i n → word32 readings ((i + j) * reading_length) ≤ most_reading
  small_before zero i j h = absurd (omega (arith, first_bound (drop (i * reading_length) readings) 0))
  small_before (suc n) i j h = go (ltb most_reading (word32 readings (i * reading_length))) refl (small_before n (i + 1)) j h
    where
      go : (t : Bool) → ltb most_reading (word32 readings (i * reading_length)) ≡ t
          → ((j : ℕ) → j < from (i + 1) n → word32 readings ((i + 1 + j) * reading_length) ≤ most_reading)
          → (j : ℕ) → j < from i (suc n) → word32 readings ((i + j) * reading_length) ≤ most_reading
      go true p r j h = absurd (omega (arith, stop i n (ltb-true _ _ p)))
      go false p r zero h = rw add-zero (ltb-false _ _ p)
      go false p r (suc j) h =
          let k : i + 1 + j ≡ i + suc j = omega arith in
          rw k at (r j (omega (arith, pass i n (ltb-false _ _ p))))

  -- WHAT THE FIRST TOO LARGE READING IS: it is above the limit, and none before it is.
  pub first_is_large : (n : ℕ) → first_large readings n < n → most_reading < word32 readings (first_large readings n * reading_length)
  first_is_large n h = rw zero-add at (found_large n 0 h)

  pub first_is_first : (n i : ℕ) → i < first_large readings n → word32 readings (i * reading_length) ≤ most_reading
  first_is_first n i h = rw zero-add at (small_before n 0 i h)

-- ---- the first n readings are looked at, and what stands behind them is not

part : (n : ℕ) (readings : List ℕ) → n * reading_length ≤ length readings → first_large (take (n * reading_length) readings) n ≡ first_large readings n
unfolding first_large
part zero readings h = refl
part (suc n) [] h = absurd (omega arith)
part (suc n) (a ∷ []) h = absurd (omega arith)
part (suc n) (a ∷ b ∷ []) h = absurd (omega arith)
part (suc n) (a ∷ b ∷ c ∷ []) h = absurd (omega arith)
part (suc n) (a ∷ b ∷ c ∷ d ∷ readings) h =
    let e : suc n * reading_length ≡ suc (suc (suc (suc (n * reading_length)))) = omega arith in
    rw (e, part n readings (omega arith))

pub large_of_part : (r : List ℕ) (n : ℕ) → n * reading_length ≤ length r → first_large (take (n * reading_length) r) n ≡ first_large r n
large_of_part r n h = part n r h
