-- Candidates in hand: one more, those that a test keeps, and their sums together. Assumes nothing.
use mathlib.Core.Bool.{Bool, true, false, cond, not, ◌||◌}
use mathlib.Core.List.{List, [], ◌∷◌, map}
use mathlib.Core.Path.{◌≡◌, refl, sym, ap, ap₂, ◌∙◌}
use Prim.Native.Nat.{ℕ, ◌+◌, ◌*◌, ◌≤◌}
use native.Mathlib.Numerals.{one-add}
use native.Mathlib.Omega.{arith}
use borrow.Author.Tests.{lt-leb, le-leb, ltb-true, ltb-false}
use lib.Dec.{ltb, leb, eqb}
use lib.ListN.{length, get_or, drop, length-map}
use Rattle.std.specs.List as list
use Rattle.std.specs.List.{list_any}
use Rattle.std.specs.Option.{unwrap_or}
use Rattle.std.specs.Prelude.{Some, None}
use Rattle.std.proofs.lemmas.List.Sums.{sum_by-cons, prefix_len-le-length}
use Rattle.numbers.specs.Lists.{sum, filter, any}
use Rattle.numbers.specs.Slots.{window_slots}
use Rattle.numbers.proofs.Chains.{sum_is}
use Rattle.readings.specs.Readings.{most_reading}
use Rattle.choosing.specs.Choosing.{round, with_day, picked}
use Rattle.choosing.specs.Days.{InHand}
use Rattle.choosing.specs.declared.candidates.Candidate.{Candidate}

-- their days, and their sums
abbrev pub backs : List Candidate → List ℕ
backs = map (λ day. day.back)

abbrev pub sums : List Candidate → List ℕ
sums = map (λ day. day.sum)

-- what stands where no day is
abbrev pub no_day : Candidate
no_day = record { back = 0; sum = 0; small = omega arith }

pub as_many : {w : ℕ → ℕ} {days : List ℕ} {candidates : List Candidate} → InHand w days candidates → length candidates ≡ length days
as_many {candidates = candidates} hand = sym (length-map candidates (λ (day : Candidate). day.back)) ∙ ap (length {A = ℕ}) hand.backs

-- how large their sums are together
pub sums_within : (candidates : List Candidate) → list.sum (sums candidates) ≤ length candidates * (window_slots * most_reading)
sums_within [] = omega arith
sums_within (day ∷ days) =
    let small : day.sum ≤ window_slots * most_reading = day.small in
    omega (arith, sum_by-cons (λ x. x) day.sum (sums days), sums_within days)

-- those that a test keeps of them
pub some_in_hand : (w : ℕ → ℕ) (test : ℕ → Bool) (by : Candidate → Bool) → ((day : Candidate) → day.sum ≡ w day.back → by day ≡ test day.back)
    → (candidates : List Candidate) → sums candidates ≡ map w (backs candidates)
    → InHand w (filter test (backs candidates)) (list.filter by candidates)
unfolding filter
some_in_hand w test by same [] e = record { backs = refl; sums = refl }
some_in_hand w test by same (day ∷ days) e =
    let first : day.sum ≡ w day.back = cc in
    let rest : sums days ≡ map w (backs days) = cc in
    rw (← same day first) (go (by day) first (some_in_hand w test by same days rest))
  where
    go : (stays : Bool) → day.sum ≡ w day.back → {kept : List ℕ} {candidates : List Candidate} → InHand w kept candidates
        → InHand w (cond stays (day.back ∷ kept) kept) (cond stays (day ∷ candidates) candidates)
    go true first hand = record { backs = ap (λ xs. day.back ∷ xs) hand.backs; sums = rw first (ap (λ xs. w day.back ∷ xs) hand.sums) }
    go false first hand = hand

-- those that a round leaves of them
not_below : (a b : ℕ) → leb a b ≡ not (ltb b a)
not_below a b = go (ltb b a) refl
  where
    go : (test : Bool) → ltb b a ≡ test → leb a b ≡ not test
    go true e = lt-leb _ _ (ltb-true _ _ e)
    go false e = le-leb _ _ (ltb-false _ _ e)

pub round_in_hand : {w : ℕ → ℕ} {five : List ℕ} {candidates left : List Candidate} (all : ℕ) → InHand w five candidates
    → all ≡ list.sum (sums candidates) → left ≡ list.filter (λ day. leb all (day.sum * 20)) candidates → InHand w (round w five) left
round_in_hand {w} {candidates = candidates} all hand total kept =
    let days = backs candidates in
    let together : all ≡ sum (map w days) = total ∙ sum_is (sums candidates) ∙ ap sum (hand.sums ∙ rw hand.backs) in
    let stays = some_in_hand w (λ k. not (ltb (w k * 20) all)) (λ day. leb all (day.sum * 20)) (λ day e. rw (← e) (not_below all (day.sum * 20))) in
    rw (← hand.backs, kept, ← together) (stays candidates (hand.sums ∙ rw hand.backs))

-- whether a day is in hand
pub any_back : (k : ℕ) (candidates : List Candidate) → any (eqb k) (backs candidates) ≡ list_any (λ day. eqb k day.back) candidates
unfolding any
any_back k [] = refl
any_back k (day ∷ days) = ap (λ b. eqb k day.back || b) (any_back k days)

-- the first place at which a test holds, or the length
pub first_or_all : {X : Type 0} (test : X → Bool) (xs : List X)
    → unwrap_or (cond (ltb (list.position_or_len test xs) (length xs)) (Some (list.position_or_len test xs)) None) (length xs) ≡ list.position_or_len test xs
first_or_all test xs = go (ltb (list.position_or_len test xs) (length xs)) refl
  where
    go : (t : Bool) → ltb (list.position_or_len test xs) (length xs) ≡ t
        → unwrap_or (cond t (Some (list.position_or_len test xs)) None) (length xs) ≡ list.position_or_len test xs
    go true e = refl
    go false e = omega (arith, ltb-false _ _ e, prefix_len-le-length (λ x. not (test x)) xs)

-- one day more
module _ (w : ℕ → ℕ) (day : Candidate) (here : day.sum ≡ w day.back) where
  place : List Candidate → ℕ
  place = list.position_or_len (λ other. ltb day.back other.back)

  put : (candidates : List Candidate) → sums candidates ≡ map w (backs candidates)
      → InHand w (with_day day.back (backs candidates)) (list.insert candidates (place candidates) day)
  unfolding with_day place
  put [] e = record { backs = refl; sums = rw here refl }
  put (first ∷ others) e =
      let one : first.sum ≡ w first.back = cc in
      let rest : sums others ≡ map w (backs others) = cc in
      go (ltb day.back first.back) one e (put others rest)
    where
      go : (t : Bool) → first.sum ≡ w first.back → sums (first ∷ others) ≡ map w (backs (first ∷ others))
          → InHand w (with_day day.back (backs others)) (list.insert others (place others) day)
          → InHand w (cond t (day.back ∷ first.back ∷ backs others) (first.back ∷ with_day day.back (backs others)))
          (list.insert (first ∷ others) (cond (not t) (1 + place others) 0) day)
      go true one e hand = record { backs = refl; sums = ap₂ (λ x xs. x ∷ xs) here e }
      go false one e hand = rw (one-add)
          (record { backs = ap (λ xs. first.back ∷ xs) hand.backs; sums = ap₂ (λ x xs. x ∷ xs) one hand.sums })

  pub put_in_hand : {days : List ℕ} {candidates : List Candidate} → InHand w days candidates
      → InHand w (with_day day.back days) (list.insert candidates (list.position_or_len (λ other. ltb day.back other.back) candidates) day)
  unfolding place
  put_in_hand {candidates = candidates} hand = rw (← hand.backs) (put candidates (hand.sums ∙ rw hand.backs refl))

-- Of two candidates the one that is picked, and that of some.
abbrev pub better : (ℕ → ℕ → Bool) → Candidate → Candidate → Candidate
better test best day = cond (test day.sum best.sum) day best

module _ (test : ℕ → ℕ → Bool) (w : ℕ → ℕ) where
  picked_by : (best : Candidate) (candidates : List Candidate) → best.sum ≡ w best.back → sums candidates ≡ map w (backs candidates)
      → ((list.fold (better test) best candidates).back ≡ picked test w best.back (backs candidates))
      × ((list.fold (better test) best candidates).sum ≡ w (list.fold (better test) best candidates).back)
  unfolding picked
  picked_by best [] e f = (refl, e)
  picked_by best (day ∷ days) e f =
      let first : day.sum ≡ w day.back = cc in
      let rest : sums days ≡ map w (backs days) = cc in
      go (test day.sum best.sum) refl (rw (← first, ← e) refl) (picked_by day days first rest) (picked_by best days e rest)
    where
      Picked : Candidate → ℕ → Type 0
      Picked last day = (last.back ≡ picked test w day (backs days)) × (last.sum ≡ w last.back)

      go : (t : Bool) → test day.sum best.sum ≡ t → test (w day.back) (w best.back) ≡ test day.sum best.sum
          → Picked (list.fold (better test) day days) day.back → Picked (list.fold (better test) best days) best.back
          → Picked (list.fold (better test) (better test best day) days) (cond (test (w day.back) (w best.back)) day.back best.back)
      go true d b p q = rw (b, d) p
      go false d b p q = rw (b, d) q

  pub picked_in_hand : {days : List ℕ} {candidates : List Candidate} (first : Candidate) (others : List Candidate) → InHand w days candidates
      → candidates ≡ first ∷ others
      → ((list.fold (better test) first others).back ≡ picked test w (get_or days 0 0) (drop 1 days))
      × ((list.fold (better test) first others).sum ≡ w (list.fold (better test) first others).back)
  picked_in_hand first others hand e =
      let days_are = sym hand.backs ∙ ap backs e in
      let sums_are : sums (first ∷ others) ≡ map w (backs (first ∷ others)) = sym (ap sums e) ∙ hand.sums ∙ ap (map w) days_are in
      let here : first.sum ≡ w first.back = cc in
      let rest : sums others ≡ map w (backs others) = cc in
      rw days_are (picked_by first others here rest)
