-- The walk, round by round. Assumes nothing.
use mathlib.Core.Path.{◌≡◌, refl, ◌∙◌}
use mathlib.Core.Bool.{Bool, true, false, cond}
use mathlib.Core.List.{List, ◌++◌}
use Prim.Native.Nat.{ℕ, zero, suc, ◌<◌, ◌≤◌}
use native.Mathlib.Omega.{arith}
use lib.Dec.{ltb, eqb}
use lib.ListN.{length, take, drop, length-append, length-take, length-drop}
use lib.Seq.{take_at, drop_at, length-take-le}
use borrow.Author.Tests.{eq-eqb, ne_eqb, lt-ltb, le-ltb, ltb-true, ltb-false, eqb-false}
use Rattle.numbers.specs.Lists.{filter}
use Rattle.choosing.specs.Choosing.{round_days, round, walk, standing}
use Rattle.choosing.proofs.SomeOf.{SomeOf, Few, some_length, some_same, some_all, some_some, some_filter, some_take, some_before}

pub filter_all : (test : ℕ → Bool) (days : List ℕ) → length (filter test days) ≡ length days → filter test days ≡ days
filter_all test days h = some_same (some_filter test days) (omega arith)

module _ (w : ℕ → ℕ) where
  pub round_length : (five : List ℕ) → length (round w five) ≤ length five
  round_length five = some_length (some_filter _ five)

  -- what the next round is over
  unfoldable pub after : List ℕ → List ℕ
  after days = round w (take 5 days) ++ drop 5 days

  pub after_less : (days : List ℕ) → 5 ≤ length days → (length (round w (take 5 days)) ≡ 5 → ⊥) → length (after days) < length days
  unfolding after
  after_less days h n = simp (length-append, length-drop) (omega (arith, n, round_length (take 5 days), length-take-le 5 days h))

  -- as many rounds as days are enough
  enough : (m n : ℕ) (days : List ℕ) → length days ≤ m → length days ≤ n → walk w m days ≡ walk w n days
  unfolding walk after
  enough zero zero days h k = refl
  enough zero (suc n) days h k = simp (lt-ltb (length days) 5 (omega arith))
  enough (suc m) zero days h k = simp (lt-ltb (length days) 5 (omega arith))
  enough (suc m) (suc n) days h k =
      go (ltb (length days) 5) (eqb (length (round w (take 5 days))) 5) refl refl
      (λ l. enough m n (after days) (omega arith) (omega arith))
    where
      go : (a b : Bool) → ltb (length days) 5 ≡ a → eqb (length (round w (take 5 days))) 5 ≡ b
          → (length (after days) < length days → walk w m (after days) ≡ walk w n (after days))
          → cond a days (cond b (take 5 days) (walk w m (after days))) ≡ cond a days (cond b (take 5 days) (walk w n (after days)))
      go true b p q r = refl
      go false true p q r = refl
      go false false p q r = r (after_less days (ltb-false _ _ p) (eqb-false _ _ q))

  once_more : (days : List ℕ) → standing w days ≡ walk w (suc (length days)) days
  once_more days = enough (length days) (suc (length days)) days (omega arith) (omega arith)

  -- 'or when fewer than five are left'
  pub days_run_out : (days : List ℕ) → length days < 5 → standing w days ≡ days
  unfolding walk
  days_run_out days h = once_more days ∙ simp (lt-ltb (length days) 5)

  module _ (five rest : List ℕ) (h : length five ≡ 5) where
    long : 5 ≤ length (five ++ rest)
    long = simp length-append (omega arith)

    -- 'The walk stops at the first round that drops no day'
    pub none_dropped : length (round w five) ≡ 5 → standing w (five ++ rest) ≡ five
    unfolding walk
    none_dropped e = once_more (five ++ rest) ∙ simp (le-ltb _ _ long, take_at five rest 5 h, eq-eqb _ _ e)

    pub some_dropped : (length (round w five) ≡ 5 → ⊥) → standing w (five ++ rest) ≡ standing w (round w five ++ rest)
    unfolding walk
    some_dropped n =
        let left = round w five ++ rest in
        let less : length left ≤ length (five ++ rest) = simp length-append (omega (arith, round_length five)) in
        once_more (five ++ rest) ∙ simp (le-ltb _ _ long, take_at five rest 5 h, drop_at five rest 5 h, ne_eqb _ _ n)
        (enough (length (five ++ rest)) (length left) left less (omega arith))

  pub after_some : (days : List ℕ) → SomeOf (after days) days
  unfolding after
  after_some days = some_before 5 days (some_filter _ (take 5 days))

  pub walk_few : (n : ℕ) (days : List ℕ) → length days ≤ n → Few round_days (walk w n days) days
  unfolding walk after
  walk_few zero days h = (omega arith, some_all days)
  walk_few (suc n) days h =
      go (ltb (length days) 5) (eqb (length (round w (take 5 days))) 5) refl refl (λ l. walk_few n (after days) (omega arith))
    where
      go : (a b : Bool) → ltb (length days) 5 ≡ a → eqb (length (round w (take 5 days))) 5 ≡ b
          → (length (after days) < length days → Few round_days (walk w n (after days)) (after days))
          → Few round_days (cond a days (cond b (take 5 days) (walk w n (after days)))) days
      go true b p q f = let l : length days < 5 = ltb-true _ _ p in (omega arith, some_all days)
      go false true p q f = (omega (arith, length-take 5 days), some_take 5 days)
      go false false p q f =
          let few = f (after_less days (ltb-false _ _ p) (eqb-false _ _ q)) in
          (few.0, some_some (after_some days) few.1)

  -- at most five days stand, of the days walked over and in their order
  pub standing_few : (days : List ℕ) → Few round_days (standing w days) days
  standing_few days = walk_few (length days) days (omega arith)
