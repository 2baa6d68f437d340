-- The days of flags, one day more. Assumes nothing.
use mathlib.Core.Path.{◌≡◌, refl}
use mathlib.Core.Bool.{Bool, true, false, cond}
use mathlib.Core.List.{List, [], ◌∷◌}
use Prim.Native.Nat.{ℕ, zero, suc, ◌+◌, ◌<◌, ◌≤◌}
use native.Mathlib.Numerals.{add-one}
use native.Mathlib.Nat.{add-suc, suc-add, le-add_right, le-suc, lt-suc_self}
use native.Mathlib.Omega.{arith}
use lib.ListN.{length, get_or, drop, drop_of_length-le}
use lib.Seq.{drop-cons}
use Rattle.numbers.specs.Lists.{run, filter}
use Rattle.numbers.proofs.Filling.{run_length}
use Rattle.choosing.specs.Days.{days_from, Rising, none, next}
use Rattle.choosing.proofs.Rising.{rising_nearer, rising_farther}

-- the days from place k on: at place k stands day k + 1
abbrev pub further : List Bool → ℕ → List ℕ
further flags k = days_from (k + 1) (drop k flags)

module _ (flags : List Bool) (k : ℕ) where
  pub further_next : k < length flags
      → further flags k ≡ cond (get_or flags k false) ((k + 1) ∷ further flags (k + 1)) (further flags (k + 1))
  unfolding days_from
  further_next h = rw (add-one, add-one, drop-cons flags k false h)

  pub further_end : length flags ≤ k → further flags k ≡ []
  unfolding days_from
  further_end h = rw (drop_of_length-le flags h)

flags_from : (k : ℕ) (flags : List Bool) → Rising k (k + length flags) (days_from (suc k) flags)
unfolding days_from
flags_from k [] = none (le-add_right k 0)
flags_from k (true ∷ flags) = next (lt-suc_self k) (rw (suc-add, ← add-suc) at (flags_from (suc k) flags))
flags_from k (false ∷ flags) = rising_nearer (le-suc k) (rw (suc-add, ← add-suc) at (flags_from (suc k) flags))

pub flags_rising : {n : ℕ} (flags : List Bool) → length flags ≤ n → Rising 0 n (days_from 1 flags)
flags_rising flags h = rising_farther (let l : 0 + length flags ≤ _ = omega arith in l) (flags_from 0 flags)

-- the flags of a test tell the days that it holds of
pub flags_filter : (test : ℕ → Bool) (k n : ℕ) → days_from k (run test k n) ≡ filter test (run (λ d. d) k n)
unfolding days_from run filter
flags_filter test k zero = refl
flags_filter test k (suc n) = rw (flags_filter test (suc k) n)

-- and they rise
pub tested_rising : (test : ℕ → Bool) (n : ℕ) → Rising 0 n (filter test (run (λ d. d) 1 n))
tested_rising test n = rw (← flags_filter test 1 n) (flags_rising (run test 1 n) (omega (arith, run_length test 1 n)))
