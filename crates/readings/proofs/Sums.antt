-- Sums of readings: of six that follow each other, of some days, and how large they are. Assumes nothing.
use mathlib.Core.Path.{◌≡◌, refl, ap, ◌∙◌}
use mathlib.Core.List.{List, [], ◌∷◌, ◌++◌, map, map-id}
use Prim.Native.Nat.{ℕ, zero, suc, ◌+◌, ◌*◌, ◌<◌, ◌≤◌}
use native.Mathlib.Nat.{zero-add, add-zero, add-suc, suc-add, add_assoc, suc-mul, mul-suc}
use native.Mathlib.Numerals.{add-one}
use native.Mathlib.Omega.{arith}
use lib.ListN.{length, get_or, drop, drop_of_length-le}
use lib.Seq.{drop-cons}
use Rattle.std.specs.List.{range_with_len}
use Rattle.std.specs.List as list
use Rattle.numbers.specs.Lists.{run, sum}
use Rattle.numbers.proofs.Chains.{sum_is, map_is}
use Rattle.numbers.proofs.Filling.{sum_more}

module _ (f : ℕ → ℕ) where
  pub six : (i : ℕ) → sum (run f i 6) ≡ f i + f (i + 1) + f (i + 2) + f (i + 3) + f (i + 4) + f (i + 5)
  unfolding run sum
  six i = sum_more f i 5 ∙ rw (sum_more f i 4, sum_more f i 3, sum_more f i 2, sum_more f i 1, sum_more f i 0, zero-add, add-zero)

  -- the same values, counted from another number on
  pub run_shift : (c i n : ℕ) → run (λ k. f (c + k)) i n ≡ run f (c + i) n
  unfolding run
  run_shift c i zero = refl
  run_shift c i (suc n) = ap (λ xs. f (c + i) ∷ xs) (run_shift c (suc i) n ∙ rw add-suc)

  -- what `sum` gives of a `map` over a range
  pub sum_mapped : (i n : ℕ) → list.sum (map (λ k. f (i + k)) (range_with_len 0 n)) ≡ sum (run f i n)
  sum_mapped i n = sum_is (map (λ k. f (i + k)) (range_with_len 0 n)) ∙ rw (map_is, run_shift i 0 n, add-zero)

  -- how large a run's values and their sum are
  pub run_within : (b i n : ℕ) → ((j : ℕ) → j < n → f (i + j) ≤ b) → (k : ℕ) → get_or (run f i n) k 0 ≤ b
  unfolding run
  run_within b i zero h k = omega arith
  run_within b i (suc n) h zero = rw add-zero at (h 0 (omega arith))
  run_within b i (suc n) h (suc k) = run_within b (suc i) n (λ j l. rw (suc-add, ← add-suc) (h (suc j) (omega arith))) k

  pub sum_within : (b i n : ℕ) → ((j : ℕ) → j < n → f (i + j) ≤ b) → sum (run f i n) ≤ n * b
  unfolding run sum
  sum_within b i zero h = omega arith
  sum_within b i (suc n) h =
      let rest = sum_within b (suc i) n (λ j l. rw (suc-add, ← add-suc) (h (suc j) (omega arith))) in
      rw suc-mul (omega (arith, rw add-zero at (h 0 (omega arith))))

  -- one day more
  pub sum_days : (xs : List ℕ) (d : ℕ) → sum (map f (xs ++ d ∷ [])) ≡ sum (map f xs) + f d
  unfolding sum
  sum_days [] d = rw (add-zero, zero-add)
  sum_days (x ∷ xs) d = rw (sum_days xs d, add_assoc)

  -- the days from a place on
  pub sum_drop : (days : List ℕ) (i : ℕ) → i < length days → sum (map f (drop i days)) ≡ f (get_or days i 0) + sum (map f (drop (i + 1) days))
  unfolding sum
  sum_drop days i h = rw (add-one, drop-cons days i 0 h)

  pub sum_drop_end : (days : List ℕ) (i : ℕ) → length days ≤ i → sum (map f (drop i days)) ≡ 0
  unfolding sum
  sum_drop_end days i h = rw (drop_of_length-le days {i = i} h)

  -- how large a sum over some days is
  pub days_within : (b : ℕ) (days : List ℕ) → ((i : ℕ) → i < length days → f (get_or days i 0) ≤ b) → sum (map f days) ≤ b * length days
  unfolding sum
  days_within b [] h = omega arith
  days_within b (d ∷ days) h =
      let rest = days_within b days (λ i l. h (suc i) (omega arith)) in
      rw mul-suc (omega (arith, h 0 (omega arith)))

  -- four days, place by place
  pub four : (days : List ℕ) → length days ≡ 4 → sum (map f days) ≡ f (get_or days 0 0) + f (get_or days 1 0) + f (get_or days 2 0) + f (get_or days 3 0)
  four days h =
      let d = sum_drop days in
      omega (arith, d 0 (omega arith), d 1 (omega arith), d 2 (omega arith), d 3 (omega arith), sum_drop_end days 4 (omega arith))

-- what agrees on each number of a run, or on each of some days
module _ (f g : ℕ → ℕ) where
  pub run_same : (i n : ℕ) → ((j : ℕ) → j < n → f (i + j) ≡ g (i + j)) → run f i n ≡ run g i n
  unfolding run
  run_same i zero h = refl
  run_same i (suc n) h =
      let first : f i ≡ g i = rw add-zero at (h 0 (omega arith)) in
      rw (first, run_same (suc i) n (λ j l. rw (suc-add, ← add-suc) (h (suc j) (omega arith))))

  pub days_same : (days : List ℕ) → ((i : ℕ) → i < length days → f (get_or days i 0) ≡ g (get_or days i 0)) → sum (map f days) ≡ sum (map g days)
  unfolding sum
  days_same [] h = refl
  days_same (d ∷ days) h = rw (h 0 (omega arith), days_same days (λ i l. h (suc i) (omega arith)))

-- six numbers, place by place
pub six_places : (xs : List ℕ) → length xs ≡ 6
    → sum xs ≡ get_or xs 0 0 + get_or xs 1 0 + get_or xs 2 0 + get_or xs 3 0 + get_or xs 4 0 + get_or xs 5 0
six_places xs h =
    let d = sum_drop (λ x. x) xs in
    let last = sum_drop_end (λ x. x) xs 6 (omega arith) in
    omega (arith, ap sum (map-id xs), d 0 (omega arith), d 1 (omega arith), d 2 (omega arith), d 3 (omega arith), d 4 (omega arith), d 5 (omega arith))
