-- WHERE 18 IS DUE (CR 5): '18 remains for a consumer with fewer than four eligible days in all thirty, and is given in no other case.'
use Rattle.std.specs.Prelude.{◌≡◌, false, List, ℕ, ltb, length}
use Rattle.calendar.specs.Eligible.{eligible_days}
use Rattle.heads.specs.Heads.{test_day}
use Rattle.heads.specs.declared.Head.{Head}
use Rattle.points.specs.Points.{Kind, consumer}
use Rattle.results.specs.SlotResults.{lacks_days}

-- of a value under a head and marks
pub record LacksEligible (h : Head) (marks value : List ℕ) : Type 0 where
  -- a consumer lacks days where fewer than four are eligible, whatever its readings are
  pub consumers : lacks_days h marks consumer value ≡ ltb (length (eligible_days (test_day h) marks)) 4
  -- a point of another kind never does
  pub others : (kind : Kind) → (kind ≡ consumer → ⊥) → lacks_days h marks kind value ≡ false

abbrev pub TooFewEligible : Type 0
TooFewEligible = (h : Head) (marks value : List ℕ) → LacksEligible h marks value
