-- Days as the code holds them: flags of the thirty days back, the candidates of a round; and what is required of sums.
use Rattle.std.specs.Prelude.{◌≡◌, Bool, cond, not, List, [], ◌∷◌, map, ℕ, suc, ◌*◌, ◌<◌, ◌≤◌, eqb, length, get_or}
use Rattle.numbers.specs.Lists.{filter, any}
use Rattle.numbers.specs.Slots.{days_back, window_slots}
use Rattle.readings.specs.Readings.{most_reading}
use Rattle.choosing.specs.declared.candidates.Candidate.{Candidate}

-- none of some numbers is above a limit; past the last stands 0
abbrev pub AtMost : ℕ → List ℕ → Type 0
AtMost most xs = (i : ℕ) → get_or xs i 0 ≤ most

-- the window sums of the thirty days back, each of six readings
pub record WindowSums (sums : List ℕ) : Type 0 where
  pub thirty : length sums ≡ days_back
  pub small : AtMost (window_slots * most_reading) sums

-- the days with a flag, of flags that begin with day k back
unfoldable pub days_from : ℕ → List Bool → List ℕ
days_from k [] = []
days_from k (flag ∷ flags) = cond flag (k ∷ days_from (suc k) flags) (days_from (suc k) flags)

-- some days without others
abbrev pub not_among : List ℕ → List ℕ → List ℕ
not_among others = filter (λ k. not (any (eqb k) others))

-- Days that rise: each is farther than `near` and than those before it, and none is farther than `far`.
pub data Rising : ℕ → ℕ → List ℕ → Type 0 where
  none : {near far : ℕ} → near ≤ far → Rising near far []
  next : {near far k : ℕ} {days : List ℕ} → near < k → Rising k far days → Rising near far (k ∷ days)

-- candidates for some days, each with its window sum
pub record InHand (w : ℕ → ℕ) (days : List ℕ) (candidates : List Candidate) : Type 0 where
  pub backs : map (λ day. day.back) candidates ≡ days
  pub sums : map (λ day. day.sum) candidates ≡ map w days
