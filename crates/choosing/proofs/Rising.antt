-- Days that rise: some of them rise too, and each is there once. Assumes nothing.
use mathlib.Core.Path.{◌≡◌, refl, ap}
use mathlib.Core.Bool.{Bool}
use mathlib.Core.List.{List, [], ◌∷◌, ◌++◌}
use Prim.Native.Nat.{ℕ, zero, suc, ◌<◌, ◌≤◌}
use native.Mathlib.Nat.{le_trans, le_of_lt, lt_of_le_of_lt}
use native.Mathlib.Omega.{arith}
use lib.ListN.{length, get_or}
use borrow.Author.Tests.{eq-eqb, ne_eqb}
use Rattle.numbers.specs.Lists.{filter}
use Rattle.choosing.specs.Choosing.{without}
use Rattle.choosing.specs.Days.{Rising, none, next}
use Rattle.choosing.proofs.SomeOf.{SomeOf, stop, keep, skip, some_filter, In, here, there, in_right}

pub rising_nearer : {near mid far : ℕ} {days : List ℕ} → near ≤ mid → Rising mid far days → Rising near far days
rising_nearer h (none l) = none (le_trans h l)
rising_nearer h (next l r) = next (lt_of_le_of_lt h l) r

pub rising_farther : {near mid far : ℕ} {days : List ℕ} → mid ≤ far → Rising near mid days → Rising near far days
rising_farther h (none l) = none (le_trans l h)
rising_farther h (next l r) = next l (rising_farther h r)

pub rising_append : {near mid far : ℕ} {xs ys : List ℕ} → Rising near mid xs → Rising mid far ys → Rising near far (xs ++ ys)
rising_append (none l) q = rising_nearer l q
rising_append (next l r) q = next l (rising_append r q)

rising_le : {near far : ℕ} {days : List ℕ} → Rising near far days → near ≤ far
rising_le (none l) = l
rising_le (next l r) = omega (arith, rising_le r)

pub some_rising : {near far : ℕ} {days all : List ℕ} → SomeOf days all → Rising near far all → Rising near far days
some_rising stop r = none (rising_le r)
some_rising (keep p) (next l r) = next l (some_rising p r)
some_rising (skip p) (next l r) = rising_nearer (le_of_lt l) (some_rising p r)

pub rising_filter : {near far : ℕ} {days : List ℕ} (test : ℕ → Bool) → Rising near far days → Rising near far (filter test days)
rising_filter {days = days} test = some_rising (some_filter test days)

pub rising_at : {near far : ℕ} {days : List ℕ} (i : ℕ) → i < length days → Rising near far days → (near < get_or days i 0) × (get_or days i 0 ≤ far)
rising_at i h (none l) = absurd (omega arith)
rising_at zero h (next l r) = (l, rising_le r)
rising_at (suc i) h (next l r) = let q = rising_at i (omega arith) r in (omega arith, q.1)

pub rising_order : {near far : ℕ} {days : List ℕ} (i j : ℕ) → i < j → j < length days → Rising near far days → get_or days i 0 < get_or days j 0
rising_order i j h l (none q) = absurd (omega arith)
rising_order i zero h l (next q r) = absurd (omega arith)
rising_order zero (suc j) h l (next q r) = (rising_at j (omega arith) r).0
rising_order (suc i) (suc j) h l (next q r) = rising_order i j (omega arith) (omega arith) r

-- past the last day stands 0
pub rising_far : {near far : ℕ} {days : List ℕ} (i : ℕ) → Rising near far days → get_or days i 0 ≤ far
rising_far i (none l) = omega arith
rising_far zero (next l r) = rising_le r
rising_far (suc i) (next l r) = rising_far i r

pub in_rising : {near far d : ℕ} {days : List ℕ} → Rising near far days → In d days → near < d
in_rising {d = d} (none {near = near} {far = far} _) p = elim p [ ]
in_rising (next l r) here = l
in_rising (next l r) (there p) = omega (arith, in_rising r p)

-- no day is there twice
pub apart : {near far d : ℕ} (xs ys : List ℕ) → Rising near far (xs ++ ys) → In d xs → In d ys → ⊥
apart [] ys r p q = elim p [ ]
apart (x ∷ xs) ys (next l r) here q = omega (arith, in_rising r (in_right xs q))
apart (x ∷ xs) ys (next l r) (there p) q = apart xs ys r p q

absent : {near far : ℕ} {days : List ℕ} (d : ℕ) → d ≤ near → Rising near far days → without d days ≡ days
unfolding filter
absent d h (none l) = refl
absent d h (next {k = k} l r) = rw (ne_eqb k d (λ q. omega arith)) (ap (λ xs. k ∷ xs) (absent d (omega arith) r))

pub without_length : {near far d : ℕ} {days : List ℕ} → Rising near far days → In d days → suc (length (without d days)) ≡ length days
unfolding filter
without_length {d = d} (none {near = near} {far = far} _) p = elim p [ ]
without_length {d = d} (next l r) here = rw (eq-eqb d d refl) (ap (λ xs. suc (length xs)) (absent d (omega arith) r))
without_length {d = d} (next {k = k} l r) (there p) = rw (ne_eqb k d (λ q. omega (arith, in_rising r p))) (ap suc (without_length r p))
