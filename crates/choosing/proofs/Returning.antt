-- Days that return: one more among some, the highest of some, and n of them one at a time. Assumes nothing.
use mathlib.Core.Path.{◌≡◌, refl, sym, ap, ◌∙◌}
use mathlib.Core.Bool.{Bool, true, false, cond, not, true≢false}
use mathlib.Core.List.{List, [], ◌∷◌}
use mathlib.Core.Logic.{◌⊎◌, inl, inr, ⊎_elim}
use Prim.Native.Nat.{ℕ, zero, suc, ◌+◌, ◌<◌, ◌≤◌}
use native.Mathlib.Nat.{le_refl, le_of_lt}
use native.Mathlib.Omega.{arith}
use lib.Dec.{ltb, eqb}
use lib.ListN.{length, get_or, drop}
use borrow.Author.Tests.{lt-ltb, le-ltb, ltb-true, ltb-false, eqb-true, eqb-false, eq-eqb, ne_eqb}
use Rattle.choosing.specs.Choosing.{without, with_day, picked, highest, returned}
use Rattle.choosing.specs.Returning.{Before}
use Rattle.choosing.specs.Days.{Rising, none, next}
use Rattle.choosing.proofs.SomeOf.{SomeOf, stop, keep, skip, some_some, some_filter, In, here, there, in_some, in_filter, in_kept}
use Rattle.choosing.proofs.Picked.{picked_in}
use Rattle.choosing.proofs.Rising.{some_rising, rising_nearer, rising_filter, in_rising, without_length}

turned : {d k j : ℕ} {days : List ℕ} → In j (d ∷ k ∷ days) → In j (k ∷ d ∷ days)
turned here = there here
turned (there here) = here
turned (there (there p)) = there (there p)

further : {k j : ℕ} {days others : List ℕ} → (In j days → In j others) → In j (k ∷ days) → In j (k ∷ others)
further f here = here
further f (there p) = there (f p)

-- one more
pub with_day_length : (d : ℕ) (days : List ℕ) → length (with_day d days) ≡ suc (length days)
unfolding with_day
with_day_length d [] = refl
with_day_length d (k ∷ days) = go (ltb d k) (with_day d days) (with_day_length d days)
  where
    go : (t : Bool) (more : List ℕ) → length more ≡ suc (length days) → length (cond t (d ∷ k ∷ days) (k ∷ more)) ≡ suc (suc (length days))
    go true more e = refl
    go false more e = ap suc e

module _ (d : ℕ) where
  in_with_day : {j : ℕ} (days : List ℕ) → In j (with_day d days) → In j (d ∷ days)
  unfolding with_day
  in_with_day [] p = p
  in_with_day (k ∷ days) p = go (ltb d k) (in_with_day days) p
    where
      go : (t : Bool) {j : ℕ} {more : List ℕ} → (In j more → In j (d ∷ days)) → In j (cond t (d ∷ k ∷ days) (k ∷ more)) → In j (d ∷ k ∷ days)
      go true f p = p
      go false f p = turned (further f p)

  with_day_in : {j : ℕ} (days : List ℕ) → In j (d ∷ days) → In j (with_day d days)
  unfolding with_day
  with_day_in [] p = p
  with_day_in (k ∷ days) p = go (ltb d k) (with_day_in days) p
    where
      go : (t : Bool) {j : ℕ} {more : List ℕ} → (In j (d ∷ days) → In j more) → In j (d ∷ k ∷ days) → In j (cond t (d ∷ k ∷ days) (k ∷ more))
      go true f p = p
      go false f p = further f (turned p)

-- a day among those that it comes from, in their order
one_of : {d : ℕ} {all : List ℕ} → In d all → SomeOf (d ∷ []) all
one_of here = keep stop
one_of (there p) = skip (one_of p)

with_nearest : {near far d : ℕ} {days : List ℕ} → d ≤ near → Rising near far days → with_day d days ≡ d ∷ days
unfolding with_day
with_nearest h (none l) = refl
with_nearest {d = d} h (next {k = k} l r) = rw (lt-ltb d k (omega arith)) refl

some_with_day : {near far d : ℕ} {days all : List ℕ} → SomeOf days all → Rising near far all → In d all → (In d days → ⊥) → SomeOf (with_day d days) all
unfolding with_day
some_with_day stop r p n = one_of p
some_with_day (keep s) (next l r) here n = absurd (n here)
some_with_day {d = d} (keep {k = k} s) (next l r) (there p) n =
    rw (le-ltb d k (omega (arith, in_rising r p))) (keep (some_with_day s r p (λ q. n (there q))))
some_with_day {d = d} (skip s) (next l r) here n = rw (with_nearest (le_refl d) (some_rising s r)) (keep s)
some_with_day (skip s) (next l r) (there p) n = skip (some_with_day s r p n)

not_first : {h j : ℕ} {days : List ℕ} → (j ≡ h → ⊥) → In j (h ∷ days) → In j days
not_first n here = absurd (n refl)
not_first n (there p) = p

-- the days but one
others : {h j : ℕ} {days : List ℕ} → In j (without h days) → (j ≡ h → ⊥) × In j days
others {h = h} {j = j} {days = days} p =
    let stays : not (eqb j h) ≡ true = in_filter _ days p in
    (λ e. true≢false (sym stays ∙ ap not (eq-eqb j h e)), in_some (some_filter _ days) p)

kept : {h j : ℕ} {days : List ℕ} → (j ≡ h → ⊥) → In j days → In j (without h days)
kept {h = h} {j = j} {days = days} n p = in_kept (λ k. not (eqb k h)) days p (ap not (ne_eqb j h n))

module _ (w : ℕ → ℕ) where
  highest_in : (high : ℕ) (gone : List ℕ) → In (highest w high gone) (high ∷ gone)
  highest_in = picked_in (λ farther high. ltb high farther) w

  -- day j is lower than day h, or as high and not nearer
  abbrev NotBefore : ℕ → ℕ → Type 0
  NotBefore h j = (w j < w h) ⊎ ((w j ≡ w h) × (h ≤ j))

  lower : {h k j : ℕ} → w j < w k → NotBefore h k → NotBefore h j
  lower below = ⊎_elim (λ l. inl (omega arith)) (λ p. inl (omega (arith, p.0)))

  farther : {h k j : ℕ} → w j ≤ w k → k ≤ j → NotBefore h k → NotBefore h j
  farther {h = h} {k = k} {j = j} below far = ⊎_elim (λ l. inl (omega arith)) (λ p. go (ltb (w j) (w h)) refl p)
    where
      go : (t : Bool) → ltb (w j) (w h) ≡ t → (w k ≡ w h) × (h ≤ k) → NotBefore h j
      go true e p = inl (ltb-true _ _ e)
      go false e p = inr (omega (arith, ltb-false _ _ e, p.0), omega (arith, p.1))

  highest_most : {near far j : ℕ} (high : ℕ) (gone : List ℕ) → Rising near far (high ∷ gone) → In j (high ∷ gone) → NotBefore (highest w high gone) j
  unfolding picked
  highest_most high [] r here = inr (refl, le_refl high)
  highest_most high [] r (there p) = elim p [ ]
  highest_most high (k ∷ gone) (next l (next m r)) p =
      go (ltb (w high) (w k)) refl p (λ j q. highest_most k gone (next m r) q) (λ j q. highest_most high gone (next l (rising_nearer (le_of_lt m) r)) q)
    where
      go : (t : Bool) → ltb (w high) (w k) ≡ t → {j : ℕ} → In j (high ∷ k ∷ gone)
          → ((j : ℕ) → In j (k ∷ gone) → NotBefore (highest w k gone) j) → ((j : ℕ) → In j (high ∷ gone) → NotBefore (highest w high gone) j)
          → NotBefore (highest w (cond t k high) gone) j
      go true e here f g = lower (ltb-true _ _ e) (f k here)
      go true e (there q) f g = f _ q
      go false e here f g = g _ here
      go false e (there here) f g = farther (ltb-false _ _ e) (le_of_lt m) (g high here)
      go false e (there (there q)) f g = g _ (there q)

  pub none_lacks : (gone days : List ℕ) → returned w 0 gone days ≡ days
  unfolding returned
  none_lacks gone days = refl

  pub none_left : (n : ℕ) (gone days : List ℕ) → length gone ≡ 0 → returned w n gone days ≡ days
  unfolding returned
  none_left zero gone days h = refl
  none_left (suc n) [] days h = refl
  none_left (suc n) (k ∷ gone) days h = absurd (omega arith)

  pub return_one : (n : ℕ) (gone days : List ℕ) → 0 < length gone
      → let high = highest w (get_or gone 0 0) (drop 1 gone) in
      returned w (suc n) gone days ≡ returned w n (without high gone) (with_day high days)
  unfolding returned
  return_one n [] days h = absurd (omega arith)
  return_one n (k ∷ gone) days h = refl

  pub returned_length : {near far : ℕ} (n : ℕ) (gone days : List ℕ) → Rising near far gone
      → (n ≤ length gone → length (returned w n gone days) ≡ length days + n)
      × (length gone ≤ n → length (returned w n gone days) ≡ length days + length gone)
  unfolding returned
  returned_length zero gone days r = (λ h. omega arith, λ h. omega arith)
  returned_length (suc n) [] days r = (λ h. absurd (omega arith), λ h. omega arith)
  returned_length (suc n) (k ∷ gone) days r =
      let high = highest w k gone in
      let one = without_length r (highest_in k gone) in
      let more = with_day_length high days in
      let rest = returned_length n (without high (k ∷ gone)) (with_day high days) (rising_filter _ r) in
      (λ h. omega (arith, one, more, rest.0), λ h. omega (arith, one, more, rest.1))

  -- a day that stands stays, and each that is there stood or was gone
  pub returned_stays : {j : ℕ} (n : ℕ) (gone days : List ℕ) → In j days → In j (returned w n gone days)
  unfolding returned
  returned_stays zero gone days p = p
  returned_stays (suc n) [] days p = p
  returned_stays (suc n) (k ∷ gone) days p =
      let high = highest w k gone in
      returned_stays n (without high (k ∷ gone)) (with_day high days) (with_day_in high days (there p))

  pub returned_of : {j : ℕ} (n : ℕ) (gone days : List ℕ) → In j (returned w n gone days) → In j days ⊎ In j gone
  unfolding returned
  returned_of zero gone days p = inl p
  returned_of (suc n) [] days p = inl p
  returned_of {j = j} (suc n) (k ∷ gone) days p =
      let high = highest w k gone in
      ⊎_elim (λ q. first high (highest_in k gone) (in_with_day high days q)) (λ q. inr (in_some (some_filter _ (k ∷ gone)) q))
      (returned_of n (without high (k ∷ gone)) (with_day high days) p)
    where
      first : (high : ℕ) → In high (k ∷ gone) → {j : ℕ} → In j (high ∷ days) → In j days ⊎ In j (k ∷ gone)
      first high h here = inr h
      first high h (there q) = inl q

  -- they are some of the days that all come from
  pub returned_some : {near far : ℕ} {all : List ℕ} (n : ℕ) (gone days : List ℕ) → Rising near far all → SomeOf gone all → SomeOf days all
      → ((j : ℕ) → In j gone → In j days → ⊥) → SomeOf (returned w n gone days) all
  unfolding returned
  returned_some zero gone days r s t apart = t
  returned_some (suc n) [] days r s t apart = t
  returned_some (suc n) (k ∷ gone) days r s t apart =
      let high = highest w k gone in
      let p = highest_in k gone in
      returned_some n (without high (k ∷ gone)) (with_day high days) r (some_some s (some_filter _ (k ∷ gone)))
      (some_with_day t r (in_some s p) (λ q. apart high p q))
      (λ j q m. apart j (others q).1 (not_first (others q).0 (in_with_day high days m)))

  -- who returns goes before each that is gone and does not
  pub returned_first : {near far j k : ℕ} (n : ℕ) (gone days : List ℕ) → Rising near far gone → In k (returned w n gone days) → (In k days → ⊥)
      → In j gone → (In j (returned w n gone days) → ⊥) → Before w k j
  unfolding returned
  returned_first zero gone days r p stood q out = absurd (stood p)
  returned_first (suc n) [] days r p stood q out = absurd (stood p)
  returned_first {j = j} {k = k} (suc n) (g ∷ gone) days r p stood q out =
      go (eqb k high) refl
      (λ d. returned_first n (without high (g ∷ gone)) (with_day high days) (rising_filter _ r) p
      (λ m. stood (not_first d (in_with_day high days m))) (kept differs q) out)
    where
      high : ℕ
      high = highest w g gone

      differs : j ≡ high → ⊥
      differs e = out (rw e (returned_stays n (without high (g ∷ gone)) (with_day high days) (with_day_in high days here)))

      go : (t : Bool) → eqb k high ≡ t → ((k ≡ high → ⊥) → Before w k j) → Before w k j
      go true e later = rw (eqb-true k high e) (⊎_elim inl (λ b. inr (b.0, omega (arith, b.1, differs))) (highest_most g gone r q))
      go false e later = later (eqb-false k high e)
