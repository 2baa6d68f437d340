-- The days that stand in the end. Assumes nothing.
use mathlib.Core.Path.{◌≡◌, refl, sym, ap, ◌∙◌}
use mathlib.Core.Bool.{Bool, true, false, not, true≢false}
use mathlib.Core.List.{List, [], ◌∷◌}
use Prim.Native.Nat.{ℕ, ◌+◌, ◌-◌, ◌<◌, ◌≤◌}
use native.Mathlib.Omega.{arith}
use lib.Dec.{ltb, eqb}
use lib.ListN.{length}
use borrow.Author.Tests.{eq-eqb, ne_eqb, ltb-true, ltb-false}
use Rattle.numbers.specs.Lists.{filter, any}
use Rattle.choosing.specs.Choosing.{round_days, standing, dropped, returned, with_returned}
use Rattle.choosing.specs.Days.{Rising, next, not_among}
use Rattle.choosing.proofs.SomeOf.{SomeOf, stop, keep, skip, Few, some_length, some_filter, In, in_filter, in_kept, in_any, not_any, filter_same}
use Rattle.choosing.proofs.Rising.{some_rising, in_rising}
use Rattle.choosing.proofs.Rounds.{standing_few}
use Rattle.choosing.proofs.Dropped.{few_dropped}
use Rattle.choosing.proofs.Returning.{none_lacks, returned_length, returned_some}

all_over : (all : List ℕ) → not_among [] all ≡ all
unfolding filter any
all_over [] = refl
all_over (k ∷ all) = ap (λ xs. k ∷ xs) (all_over all)

-- some days, and those that are not among them, are all
left_length : {near far : ℕ} {days all : List ℕ} → Rising near far all → SomeOf days all → length days + length (not_among days all) ≡ length all
unfolding filter any
left_length r (stop {all = all}) = rw (all_over all) (omega arith)
left_length (next l r) (keep {k = k} {days = days} {all = all} s) =
    let same : not_among (k ∷ days) all ≡ not_among days all
    = filter_same {test = λ j. not (any (eqb j) (k ∷ days))} {other = λ j. not (any (eqb j) days)} all
    (λ j p. rw (ne_eqb j k (λ e. omega (arith, in_rising r p))) refl)
    in
    rw (eq-eqb k k refl, same) (omega (arith, left_length r s))
left_length (next l r) (skip {k = k} {days = days} s) =
    let out : any (eqb k) days ≡ false = not_any k days (λ p. omega (arith, in_rising (some_rising s r) p)) in
    rw out (omega (arith, left_length r s))

-- where four stand or more, none returns
pub none_returned : (w : ℕ → ℕ) (days : List ℕ) → 4 ≤ length (standing w days) → with_returned w days ≡ standing w days
none_returned w days h =
    let none : 4 - length (standing w days) ≡ 0 = omega arith in
    ap (λ n. returned w n (dropped w days) (standing w days)) none ∙ none_lacks w (dropped w days) (standing w days)

module _ (w : ℕ → ℕ) {near far : ℕ} (days : List ℕ) (rising : Rising near far days) where
  module _ (few : length (standing w days) < 4) where
    dropped_are : dropped w days ≡ not_among (standing w days) days
    dropped_are = few_dropped w days rising (omega arith)

    pub with_returned_is : returned w (4 - length (standing w days)) (not_among (standing w days) days) (standing w days) ≡ with_returned w days
    with_returned_is = rw (← dropped_are) refl

    pub not_standing : (j : ℕ) → In j (dropped w days) → In j (standing w days) → ⊥
    not_standing j p q =
        let out : not (any (eqb j) (standing w days)) ≡ true = in_filter (λ k. not (any (eqb k) (standing w days))) days (rw dropped_are at p) in
        true≢false (sym out ∙ ap not (in_any q))

    pub in_dropped : {j : ℕ} → In j days → (In j (standing w days) → ⊥) → In j (dropped w days)
    in_dropped {j = j} p n = rw dropped_are (in_kept (λ k. not (any (eqb k) (standing w days))) days p (ap not (not_any j (standing w days) n)))

    pub dropped_rising : Rising near far (dropped w days)
    dropped_rising = some_rising (some_filter _ days) rising

    dropped_count : length (standing w days) + length (dropped w days) ≡ length days
    dropped_count = rw dropped_are (left_length rising (standing_few w days).1)

    pub returned_count : (4 ≤ length days → length (with_returned w days) ≡ 4) × (length days ≤ 4 → length (with_returned w days) ≡ length days)
    returned_count =
        let many = returned_length w (4 - length (standing w days)) (dropped w days) (standing w days) dropped_rising in
        (λ h. omega (arith, dropped_count, many.0), λ h. omega (arith, dropped_count, many.1))

    with_returned_some : SomeOf (with_returned w days) days
    with_returned_some = returned_some w (4 - length (standing w days)) (dropped w days) (standing w days) rising (some_filter _ days) (standing_few w days).1 not_standing

  -- at most five days, some of those walked over, four where there are so many, else all
  pub with_returned_few : Few round_days (with_returned w days) days × ((4 ≤ length days → 4 ≤ length (with_returned w days)) × (length days ≤ 4 → length (with_returned w days) ≡ length days))
  with_returned_few = go (ltb (length (standing w days)) 4) refl
    where
      go : (t : Bool) → ltb (length (standing w days)) 4 ≡ t
          → Few round_days (with_returned w days) days × ((4 ≤ length days → 4 ≤ length (with_returned w days)) × (length days ≤ 4 → length (with_returned w days) ≡ length days))
      go true e =
          let few : length (standing w days) < 4 = ltb-true _ _ e in
          let count = returned_count few in
          let some = with_returned_some few in
          ((grind (arith, count.0, count.1), some), (λ h. omega (arith, count.0), count.1))
      go false e =
          let enough : 4 ≤ length (standing w days) = ltb-false _ _ e in
          let stood = standing_few w days in
          rw (none_returned w days enough) (stood, (λ h. enough, λ h. omega (arith, some_length stood.1)))
