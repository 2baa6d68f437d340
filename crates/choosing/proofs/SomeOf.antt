-- Some days of a list, in their order, and the days that are there. Assumes nothing.
use mathlib.Core.Path.{◌≡◌, refl, sym, ap, ◌∙◌}
use mathlib.Core.Bool.{Bool, true, false, cond, not, ◌||◌, true≢false}
use mathlib.Core.List.{List, [], ◌∷◌, ◌++◌}
use mathlib.Core.Logic.{◌⊎◌, inl, inr, ⊎_elim}
use Prim.Native.Nat.{ℕ, zero, suc, ◌<◌, ◌≤◌}
use native.Mathlib.Omega.{arith}
use lib.Dec.{eqb}
use lib.ListN.{length, get_or, take, drop}
use borrow.Author.Tests.{eq-eqb, eqb-true}
use Rattle.std.proofs.lemmas.Bool.{false_from_ne_true}
use Rattle.numbers.specs.Lists.{filter, any}

-- some days of a list, in their order
pub data SomeOf : List ℕ → List ℕ → Type 0 where
  stop : {all : List ℕ} → SomeOf [] all
  keep : {k : ℕ} {days all : List ℕ} → SomeOf days all → SomeOf (k ∷ days) (k ∷ all)
  skip : {k : ℕ} {days all : List ℕ} → SomeOf days all → SomeOf days (k ∷ all)

pub some_all : (days : List ℕ) → SomeOf days days
some_all [] = stop
some_all (k ∷ days) = keep (some_all days)

pub some_some : {days more all : List ℕ} → SomeOf more all → SomeOf days more → SomeOf days all
some_some stop stop = stop
some_some (keep p) stop = stop
some_some (keep p) (keep q) = keep (some_some p q)
some_some (keep p) (skip q) = skip (some_some p q)
some_some (skip p) q = skip (some_some p q)

pub some_filter : (test : ℕ → Bool) (days : List ℕ) → SomeOf (filter test days) days
unfolding filter
some_filter test [] = stop
some_filter test (k ∷ days) = go (test k) (some_filter test days)
  where
    go : (t : Bool) {left : List ℕ} → SomeOf left days → SomeOf (cond t (k ∷ left) left) (k ∷ days)
    go true p = keep p
    go false p = skip p

pub some_take : (n : ℕ) (days : List ℕ) → SomeOf (take n days) days
some_take zero days = stop
some_take (suc n) [] = stop
some_take (suc n) (k ∷ days) = keep (some_take n days)

-- some of the first n, and all behind them
pub some_before : (n : ℕ) (days : List ℕ) {left : List ℕ} → SomeOf left (take n days) → SomeOf (left ++ drop n days) days
some_before zero days stop = some_all days
some_before (suc n) [] stop = stop
some_before (suc n) (k ∷ days) stop = skip (some_before n days stop)
some_before (suc n) (k ∷ days) (keep p) = keep (some_before n days p)
some_before (suc n) (k ∷ days) (skip p) = skip (some_before n days p)

pub some_length : {days all : List ℕ} → SomeOf days all → length days ≤ length all
some_length stop = omega arith
some_length (keep p) = omega (arith, some_length p)
some_length (skip p) = omega (arith, some_length p)

pub some_same : {days all : List ℕ} → SomeOf days all → length all ≤ length days → days ≡ all
some_same (stop {all = []}) h = refl
some_same (stop {all = k ∷ all}) h = absurd (omega arith)
some_same (keep {k = k} p) h = ap (λ xs. k ∷ xs) (some_same p (omega arith))
some_same (skip p) h = absurd (omega (arith, some_length p))

-- at most n of some days
abbrev pub Few : ℕ → List ℕ → List ℕ → Type 0
Few n days all = (length days ≤ n) × SomeOf days all

-- a day that is there
pub data In : ℕ → List ℕ → Type 0 where
  here : {d : ℕ} {days : List ℕ} → In d (d ∷ days)
  there : {d k : ℕ} {days : List ℕ} → In d days → In d (k ∷ days)

pub in_place : (days : List ℕ) (i : ℕ) → i < length days → In (get_or days i 0) days
in_place [] i h = absurd (omega arith)
in_place (k ∷ days) zero h = here
in_place (k ∷ days) (suc i) h = there (in_place days i (omega arith))

pub in_some : {d : ℕ} {days all : List ℕ} → SomeOf days all → In d days → In d all
in_some {d = d} (stop {all = all}) q = elim q [ ]
in_some (keep p) here = here
in_some (keep p) (there q) = there (in_some p q)
in_some (skip p) q = there (in_some p q)

pub in_length : {d : ℕ} {days : List ℕ} → In d days → 0 < length days
in_length here = omega arith
in_length (there p) = omega arith

pub in_filter : {d : ℕ} (test : ℕ → Bool) (days : List ℕ) → In d (filter test days) → test d ≡ true
unfolding filter
in_filter test [] = λ p. absurd (omega (arith, in_length p))
in_filter test (k ∷ days) = go (test k) refl (in_filter test days)
  where
    go : (t : Bool) → test k ≡ t → {d : ℕ} {left : List ℕ} → (In d left → test d ≡ true) → In d (cond t (k ∷ left) left) → test d ≡ true
    go true e f here = e
    go true e f (there q) = f q
    go false e f q = f q

-- a day there of which a test holds
pub in_kept : {d : ℕ} (test : ℕ → Bool) (days : List ℕ) → In d days → test d ≡ true → In d (filter test days)
unfolding filter
in_kept test [] p e = absurd (omega (arith, in_length p))
in_kept test (k ∷ days) p e = go (test k) refl (λ q. in_kept test days q e) p e
  where
    go : (t : Bool) → test k ≡ t → {d : ℕ} {left : List ℕ} → (In d days → In d left) → In d (k ∷ days) → test d ≡ true → In d (cond t (k ∷ left) left)
    go true p f here e = here
    go true p f (there q) e = there (f q)
    go false p f here e = absurd (true≢false (sym e ∙ p))
    go false p f (there q) e = f q

-- of the others it does not
pub in_split : {d : ℕ} (test : ℕ → Bool) (days : List ℕ) → In d days → (test d ≡ true) ⊎ In d (filter (λ k. not (test k)) days)
in_split {d = d} test days p = go (test d) refl
  where
    go : (t : Bool) → test d ≡ t → (test d ≡ true) ⊎ In d (filter (λ k. not (test k)) days)
    go true e = inl e
    go false e = inr (in_kept (λ k. not (test k)) days p (ap not e))

-- whether a day is there
pub in_any : {d : ℕ} {days : List ℕ} → In d days → any (eqb d) days ≡ true
unfolding any
in_any {d = d} here = rw (eq-eqb d d refl) refl
in_any {d = d} (there {k = k} p) = rw (in_any p) (or_true (eqb d k))
  where
    or_true : (b : Bool) → (b || true) ≡ true
    or_true true = refl
    or_true false = refl

pub any_in : (d : ℕ) (days : List ℕ) → any (eqb d) days ≡ true → In d days
unfolding any
any_in d [] e = absurd (true≢false (sym e))
any_in d (k ∷ days) e = go (eqb d k) refl (any_in d days) e
  where
    go : (t : Bool) → eqb d k ≡ t → (any (eqb d) days ≡ true → In d days) → (t || any (eqb d) days) ≡ true → In d (k ∷ days)
    go true p f e = rw (eqb-true d k p) here
    go false p f e = there (f e)

pub not_any : (d : ℕ) (days : List ℕ) → (In d days → ⊥) → any (eqb d) days ≡ false
not_any d days n = false_from_ne_true (any (eqb d) days) (λ e. n (any_in d days e))

pub in_append : {d : ℕ} (xs ys : List ℕ) → In d (xs ++ ys) → In d xs ⊎ In d ys
in_append [] ys p = inr p
in_append (x ∷ xs) ys here = inl here
in_append (x ∷ xs) ys (there p) = ⊎_elim (λ q. inl (there q)) inr (in_append xs ys p)

pub in_left : {d : ℕ} {xs : List ℕ} (ys : List ℕ) → In d xs → In d (xs ++ ys)
in_left ys here = here
in_left ys (there p) = there (in_left ys p)

pub in_right : {d : ℕ} (xs : List ℕ) {ys : List ℕ} → In d ys → In d (xs ++ ys)
in_right [] p = p
in_right (x ∷ xs) p = there (in_right xs p)

-- a test that says the same of each day there
pub filter_same : {test other : ℕ → Bool} (days : List ℕ) → ((d : ℕ) → In d days → test d ≡ other d) → filter test days ≡ filter other days
unfolding filter
filter_same [] same = refl
filter_same (k ∷ days) same = rw (same k here, filter_same days (λ d p. same d (there p))) refl
