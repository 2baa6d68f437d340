-- Choosing four days (document 01, and CR 5). A day is its number back; lists of days have the nearest first; `w k` is the window sum of
-- day k.
use Rattle.std.specs.Prelude.{Bool, cond, not, List, [], ◌∷◌, ◌++◌, map, ℕ, zero, suc, ◌*◌, ◌-◌, leb, ltb, eqb, length, take, drop}
use Rattle.numbers.specs.Lists.{sum, filter, any}
use Rattle.numbers.specs.Slots.{days_used}

-- 'A round takes the nearest five'
abbrev pub round_days : ℕ
round_days = 5

-- the quarter rule: a day 'whose window sum times 20 is less than the five sums together is dropped'
abbrev pub is_low : ℕ → ℕ → Bool
is_low sum all = ltb (sum * 20) all

-- what a round leaves of its five, and what it drops
abbrev pub round : (ℕ → ℕ) → List ℕ → List ℕ
round w five = let all = sum (map w five) in filter (λ k. not (is_low (w k) all)) five

abbrev pub low : (ℕ → ℕ) → List ℕ → List ℕ
low w five = let all = sum (map w five) in filter (λ k. is_low (w k) all) five

-- The walk, of at most n rounds, over the days not yet dropped. 'A round takes the nearest five'. It stops 'at the first round that
-- drops no day, or when fewer than five are left'.
unfoldable pub walk : (ℕ → ℕ) → ℕ → List ℕ → List ℕ
walk w zero days = days
walk w (suc n) days =
    let left = round w (take round_days days) in
    let further = walk w n (left ++ drop round_days days) in
    cond (ltb (length days) round_days) days (cond (eqb (length left) round_days) (take round_days days) further)

-- The days that stand after the walk: each round but the last drops a day, so there are never more rounds than days.
abbrev pub standing : (ℕ → ℕ) → List ℕ → List ℕ
standing w days = walk w (length days) days

-- What at most n rounds drop. A round that drops no day leaves the same five, so that those behind it drop none either.
unfoldable pub drops : (ℕ → ℕ) → ℕ → List ℕ → List ℕ
drops w zero days = []
drops w (suc n) days =
    let five = take round_days days in
    let further = drops w n (round w five ++ drop round_days days) in
    cond (ltb (length days) round_days) [] (low w five ++ further)

-- CR 5: 'those dropped by the quarter rule', in whichever round
abbrev pub dropped : (ℕ → ℕ) → List ℕ → List ℕ
dropped w days = let all = drops w (length days) days in filter (λ k. any (eqb k) all) days

-- some days without day d; with it, nearest first
abbrev pub without : ℕ → List ℕ → List ℕ
without d = filter (λ k. not (eqb k d))

unfoldable pub with_day : ℕ → List ℕ → List ℕ
with_day d [] = d ∷ []
with_day d (k ∷ days) = cond (ltb d k) (d ∷ k ∷ days) (k ∷ with_day d days)

-- Of a day and farther ones the one that is picked: a farther one, where the test holds of its window sum and of that of the day picked
-- so far.
unfoldable pub picked : (ℕ → ℕ → Bool) → (ℕ → ℕ) → ℕ → List ℕ → ℕ
picked test w day [] = day
picked test w day (k ∷ days) = picked test w (cond (test (w k) (w day)) k day) days

-- the day with the highest window sum: 'the nearer of equals first'
abbrev pub highest : (ℕ → ℕ) → ℕ → List ℕ → ℕ
highest = picked (λ farther high. ltb high farther)

-- Some days, to which n of some others 'return one at a time, highest window sum first'.
unfoldable pub returned : (ℕ → ℕ) → ℕ → List ℕ → List ℕ → List ℕ
returned w zero others days = days
returned w (suc n) [] days = days
returned w (suc n) (k ∷ others) days =
    let high = highest w k others in
    returned w n (without high (k ∷ others)) (with_day high days)

-- 'Where fewer than four days stand, those dropped by the quarter rule return .. until four stand.' As many return as are missing to make
-- four.
abbrev pub with_returned : (ℕ → ℕ) → List ℕ → List ℕ
with_returned w eligible =
    let stand = standing w eligible in
    returned w (days_used - length stand) (dropped w eligible) stand

-- the day with the lowest window sum: 'among equals the farthest day goes'
abbrev pub lowest : (ℕ → ℕ) → ℕ → List ℕ → ℕ
lowest = picked (λ farther low. leb farther low)

-- 'Five standing: the lowest window sum goes.' 'Four standing: all four are used.'
unfoldable pub used : (ℕ → ℕ) → List ℕ → List ℕ
used w [] = []
used w (k ∷ days) = cond (eqb (length (k ∷ days)) round_days) (without (lowest w k days) (k ∷ days)) (k ∷ days)

-- 18: fewer than four, which are then all of the eligible days (CR 5)
abbrev pub is_few : List ℕ → Bool
is_few days = ltb (length days) days_used

-- The chosen days, of the eligible ones: four, or fewer (refusal 18).
unfoldable pub chosen : (ℕ → ℕ) → List ℕ → List ℕ
chosen w eligible = used w (with_returned w eligible)
