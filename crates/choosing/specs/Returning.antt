-- THE DAYS THAT RETURN (CR 5), for any window sums and any eligible days, and said without the order in which they return.
use Rattle.std.specs.Prelude.{◌≡◌, true, Bool, not, List, ℕ, ◌<◌, ◌≤◌, ◌⊎◌, eqb, length, get_or}
use Rattle.numbers.specs.Lists.{run, filter, any}
use Rattle.numbers.specs.Slots.{days_back, days_used}
use Rattle.choosing.specs.Choosing.{standing, dropped, used, chosen}

-- day k is one of some days
abbrev pub Among : List ℕ → ℕ → Type 0
Among days k = any (eqb k) days ≡ true

-- a day returns before another: 'highest window sum first, the nearer of equals first'
abbrev pub Before : (ℕ → ℕ) → ℕ → ℕ → Type 0
Before w k j = (w j < w k) ⊎ ((w j ≡ w k) × (k < j))

-- The chosen days where fewer than four stand: `stand` are those that stand, `low` those that the quarter rule dropped.
pub record GivenBack (w : ℕ → ℕ) (eligible stand low days : List ℕ) : Type 0 where
  -- each eligible day stands, or was dropped
  pub either : (k : ℕ) → Among eligible k → any (eqb k) low ≡ not (any (eqb k) stand)
  -- 'until four stand', or all of the eligible days where there are fewer
  pub four : days_used ≤ length eligible → length days ≡ days_used
  pub all : length eligible < days_used → days ≡ eligible
  -- nearest first; 'days that are not eligible never return'
  pub rise : (i j : ℕ) → i < j → j < length days → get_or days i 0 < get_or days j 0
  pub eligible_alone : (k : ℕ) → Among days k → Among eligible k
  -- no standing day is replaced
  pub stay : (k : ℕ) → Among stand k → Among days k
  -- every other one was dropped, and goes before each eligible day that does not return
  pub dropped_alone : (k : ℕ) → Among days k → (Among stand k → ⊥) → Among low k
  pub first : (k j : ℕ) → Among days k → (Among stand k → ⊥) → Among eligible j → (Among days j → ⊥) → Before w k j

-- of days that a test tells, such as the eligible ones
abbrev pub DaysReturn : Type 0
DaysReturn = (w : ℕ → ℕ) (test : ℕ → Bool)
    → let eligible = filter test (run (λ k. k) 1 days_back) in
    length (standing w eligible) < days_used → GivenBack w eligible (standing w eligible) (dropped w eligible) (chosen w eligible)

-- WHERE FOUR OR FIVE STAND, nothing returns: of five the lowest goes, four are used
abbrev pub StandingAreUsed : Type 0
StandingAreUsed = (w : ℕ → ℕ) (eligible : List ℕ) → days_used ≤ length (standing w eligible) → chosen w eligible ≡ used w (standing w eligible)
