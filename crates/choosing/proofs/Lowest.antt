-- The lowest of five days goes. Assumes nothing.
use mathlib.Core.Path.{◌≡◌, refl, sym, ap, ◌∙◌}
use mathlib.Core.Bool.{Bool, true, false, cond, not}
use mathlib.Core.List.{List, [], ◌∷◌}
use Prim.Native.Nat.{ℕ, suc, ◌<◌, ◌≤◌}
use native.Mathlib.Omega.{arith}
use lib.Dec.{leb, ltb, eqb}
use lib.ListN.{length, get_or, drop}
use borrow.Author.Tests.{eq-eqb, ne_eqb, eqb-true, eqb-false, lt-ltb, le-ltb, ltb-true, ltb-false}
use Rattle.std.specs.List as list
use Rattle.numbers.specs.Slots.{days_used}
use Rattle.choosing.specs.Choosing.{round_days, with_returned, without, lowest, used, is_few, chosen}
use Rattle.choosing.specs.Days.{Rising, InHand}
use Rattle.choosing.specs.declared.candidates.Candidate.{Candidate}
use Rattle.choosing.proofs.InHand.{as_many, some_in_hand}
use Rattle.choosing.proofs.SomeOf.{stop, Few, some_all, some_some, some_filter, In}
use Rattle.choosing.proofs.Picked.{picked_in}
use Rattle.choosing.proofs.Rising.{some_rising, without_length}
use Rattle.choosing.proofs.WithReturned.{with_returned_few}

module _ (w : ℕ → ℕ) where
  lowest_in : (low : ℕ) (days : List ℕ) → In (lowest w low days) (low ∷ days)
  lowest_in = picked_in (λ farther low. leb farther low) w

  -- 'Five standing: the lowest window sum goes.'
  pub used_five : (days : List ℕ) → length days ≡ 5 → used w days ≡ without (lowest w (get_or days 0 0) (drop 1 days)) days
  unfolding used
  used_five [] h = absurd (omega arith)
  used_five (k ∷ days) h = simp (eq-eqb (suc (length days)) 5 h)

  pub used_fewer : (days : List ℕ) → (length days ≡ 5 → ⊥) → used w days ≡ days
  unfolding used
  used_fewer [] n = refl
  used_fewer (k ∷ days) n = simp (ne_eqb (suc (length days)) 5 n)

  -- four are left of five
  pub four_left : {near far : ℕ} (days : List ℕ) → length days ≡ 5 → Rising near far days
      → length (without (lowest w (get_or days 0 0) (drop 1 days)) days) ≡ 4
  four_left [] h r = absurd (omega arith)
  four_left (k ∷ days) h r = omega (arith, without_length r (lowest_in k days))

  used_few : {near far : ℕ} (days : List ℕ) → length days ≤ round_days → Rising near far days → Few days_used (used w days) days
  unfolding used
  used_few [] h r = (omega arith, stop)
  used_few (k ∷ days) h r = go (eqb (length (k ∷ days)) 5) refl
    where
      go : (t : Bool) → eqb (length (k ∷ days)) 5 ≡ t
          → Few days_used (cond t (without (lowest w k days) (k ∷ days)) (k ∷ days)) (k ∷ days)
      go true p = (omega (arith, four_left (k ∷ days) (eqb-true _ _ p) r), some_filter _ (k ∷ days))
      go false p = let n : length (k ∷ days) ≡ 5 → ⊥ = eqb-false _ _ p in (omega arith, some_all (k ∷ days))

  pub used_length : {near far : ℕ} (days : List ℕ) → length days ≤ round_days → Rising near far days
      → (4 ≤ length days → length (used w days) ≡ 4) × (length days ≤ 4 → length (used w days) ≡ length days)
  used_length days h r = (λ l. go (eqb (length days) 5) refl l, λ l. ap (length {A = ℕ}) (used_fewer days (λ e. omega arith)))
    where
      go : (t : Bool) → eqb (length days) 5 ≡ t → 4 ≤ length days → length (used w days) ≡ 4
      go true e l = rw (used_five days (eqb-true _ _ e)) (four_left days (eqb-true _ _ e) r)
      go false e l = let fewer : length days ≡ 5 → ⊥ = eqb-false _ _ e in rw (used_fewer days fewer) (omega (arith, fewer))

  -- at most four days are chosen, of the days chosen from and in their order
  pub chosen_few : {near far : ℕ} {days : List ℕ} → Rising near far days → Few days_used (chosen w days) days
  unfolding chosen
  chosen_few {days = days} r =
      let stood = (with_returned_few w days r).0 in
      let few = used_few (with_returned w days) stood.0 (some_rising stood.1 r) in
      (few.0, some_some stood.1 few.1)

  -- and four where there are so many, else all
  pub chosen_count : {near far : ℕ} (days : List ℕ) → Rising near far days
      → (4 ≤ length days → length (chosen w days) ≡ 4) × (length days ≤ 4 → length (chosen w days) ≡ length days)
  unfolding chosen
  chosen_count days r =
      let (stood, (many, all)) = with_returned_few w days r in
      let count = used_length (with_returned w days) stood.0 (some_rising stood.1 r) in
      (λ h. count.0 (many h), λ h. count.1 (omega (arith, all h)) ∙ all h)

  -- fewer than four are chosen where fewer are there
  pub chosen_lack : {near far : ℕ} (days : List ℕ) → Rising near far days → is_few (chosen w days) ≡ is_few days
  chosen_lack days r = go (ltb (length days) 4) refl (chosen_count days r)
    where
      go : (t : Bool) → ltb (length days) 4 ≡ t
          → (4 ≤ length days → length (chosen w days) ≡ 4) × (length days ≤ 4 → length (chosen w days) ≡ length days) → is_few (chosen w days) ≡ t
      go true e count = let few : length days < 4 = ltb-true _ _ e in lt-ltb _ _ (omega (arith, count.1))
      go false e count = let enough : 4 ≤ length days = ltb-false _ _ e in le-ltb _ _ (omega (arith, count.0))

-- what is in hand, before and after
module _ {w : ℕ → ℕ} {days : List ℕ} {candidates : List Candidate} (hand : InHand w days candidates) where
  pub five_in_hand : {left : List Candidate} {low : ℕ} → length candidates ≡ 5 → low ≡ lowest w (get_or days 0 0) (drop 1 days)
      → left ≡ list.filter (λ day. not (eqb day.back low)) candidates → InHand w (used w days) left
  five_in_hand {low = low} full lowest_is kept =
      let others = some_in_hand w (λ other. not (eqb other low)) (λ day. not (eqb day.back low)) (λ day e. refl) in
      let left = rw hand.backs at (others candidates (hand.sums ∙ rw hand.backs)) in
      rw (used_five w days (sym (as_many hand) ∙ full), ← lowest_is, kept) left

  pub fewer_in_hand : (length candidates ≡ 5 → ⊥) → InHand w (used w days) candidates
  fewer_in_hand fewer = rw (used_fewer w days (λ e. fewer (as_many hand ∙ e))) hand
