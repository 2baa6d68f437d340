-- Where fewer than five days stand, those that do not stand are those that the rounds dropped. Assumes nothing.
use mathlib.Core.Path.{◌≡◌, refl, sym, ap, ◌∙◌}
use mathlib.Core.Bool.{Bool, true, false, cond, not, true≢false}
use mathlib.Core.List.{List, [], ◌++◌, map}
use mathlib.Core.Logic.{◌⊎◌, inl, inr, ⊎_elim}
use Prim.Native.Nat.{ℕ, zero, suc, ◌<◌, ◌≤◌}
use native.Mathlib.Omega.{arith}
use lib.Dec.{ltb, eqb}
use lib.ListN.{length, take, drop}
use lib.Seq.{length-take-le}
use borrow.Author.Tests.{ltb-false, eqb-false}
use Rattle.std.proofs.lemmas.List.{take-append-drop}
use Rattle.numbers.specs.Lists.{sum, any}
use Rattle.numbers.proofs.Filling.{any_append}
use Rattle.choosing.specs.Choosing.{is_low, round, low, walk, standing, drops, dropped}
use Rattle.choosing.specs.Days.{Rising, not_among}
use Rattle.choosing.proofs.SomeOf.{In, in_some, in_length, in_filter, in_kept, in_split, in_any, not_any, in_append, in_left, in_right, some_filter, filter_same}
use Rattle.choosing.proofs.Rising.{some_rising, apart}
use Rattle.choosing.proofs.Rounds.{after, after_less, after_some, walk_few}

module _ (w : ℕ → ℕ) where
  -- whether a round of these five drops a day
  falls : List ℕ → ℕ → Bool
  falls five k = is_low (w k) (sum (map w five))

  -- a day is dropped by the next round, or goes on
  low_or_after : {k : ℕ} (five rest : List ℕ) → In k (five ++ rest) → In k (low w five) ⊎ In k (round w five ++ rest)
  unfolding falls
  low_or_after five rest p = ⊎_elim
      (λ q. ⊎_elim (λ t. inl (in_kept (falls five) five q t)) (λ r. inr (in_left rest r)) (in_split (falls five) five q))
      (λ q. inr (in_right (round w five) q))
      (in_append five rest p)

  -- and not both
  low_not_after : {near far k : ℕ} (five rest : List ℕ) → Rising near far (five ++ rest) → In k (low w five) → In k (round w five ++ rest) → ⊥
  unfolding falls
  low_not_after {k = k} five rest r p q = ⊎_elim
      (λ s. let stays : not (falls five k) ≡ true = in_filter (λ k. not (falls five k)) five s in
      let falls : falls five k ≡ true = in_filter (falls five) five p in
      true≢false (sym stays ∙ ap not falls))
      (λ s. apart five rest r (in_some (some_filter (falls five) five) p) s)
      (in_append (round w five) rest q)

  -- of the days walked over each stands, or was dropped
  walked : {near far k : ℕ} (n : ℕ) (days : List ℕ) → length days ≤ n → Rising near far days → length (walk w n days) < 5 → In k days
      → any (eqb k) (drops w n days) ≡ not (any (eqb k) (walk w n days))
  unfolding walk drops any after
  walked zero days h r few p = absurd (omega (arith, in_length p))
  walked {near = near} {far = far} {k = k} (suc n) days h r few p =
      go (ltb (length days) 5) (eqb (length (round w five)) 5) refl refl few
      (λ l f q. walked n (after w days) (omega (arith, l)) (some_rising (after_some w days) r) f q)
    where
      five : List ℕ
      five = take 5 days

      rest : List ℕ
      rest = drop 5 days

      whole : five ++ rest ≡ days
      whole = take-append-drop 5 days

      go : (a b : Bool) → ltb (length days) 5 ≡ a → eqb (length (round w five)) 5 ≡ b
          → length (cond a days (cond b five (walk w n (after w days)))) < 5
          → (length (after w days) < length days → length (walk w n (after w days)) < 5 → In k (after w days)
          → any (eqb k) (drops w n (after w days)) ≡ not (any (eqb k) (walk w n (after w days))))
          → any (eqb k) (cond a [] (low w five ++ drops w n (after w days)))
          ≡ not (any (eqb k) (cond a days (cond b five (walk w n (after w days)))))
      go true b e f few more = rw (in_any p) refl
      go false true e f few more = absurd (omega (arith, ltb-false _ _ e, length-take-le 5 days))
      go false false e f few more =
          let less : length (after w days) < length days = after_less w days (ltb-false _ _ e) (eqb-false _ _ f) in
          let rise : Rising near far (five ++ rest) = rw whole r in
          let not_both = λ (q : In k (low w five)) (s : In k (after w days)). low_not_after five rest rise q s in
          let stands = λ (s : In k (walk w n (after w days))). in_some (walk_few w n (after w days) (omega (arith, less))).1 s in
          ⊎_elim
          (λ q. rw (in_any (in_left (drops w n (after w days)) q), not_any k (walk w n (after w days)) (λ s. not_both q (stands s))) refl)
          (λ q. rw (any_append (eqb k) (low w five) (drops w n (after w days)), not_any k (low w five) (λ s. not_both s q)) (more less few q))
          (low_or_after five rest (rw whole p))

  pub few_dropped : {near far : ℕ} (days : List ℕ) → Rising near far days → length (standing w days) < 5
      → dropped w days ≡ not_among (standing w days) days
  few_dropped days r few = filter_same days (λ k p. walked (length days) days (omega arith) r few p)
