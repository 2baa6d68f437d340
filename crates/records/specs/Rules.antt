-- THE RULES of one record (CR 4): 'the closing rules that one record shows', each a row of a table over its eight words, in the order of the
-- change request. A row is told by the words as they are, whatever the other rows tell.
use Rattle.std.specs.Prelude.{Bool, false, cond, not, ◌&&◌, ◌||◌, List, [], ◌∷◌, ◌*◌, leb, eqb, ℤ, pos, negsuc, nat_abs, ◌+ℤ◌, int_le, int_lt}
use Rattle.numbers.specs.Lists.{any}
use Rattle.numbers.specs.Slots.{window_slots}
use Rattle.integers.specs.Integers.{or_zero}
use Rattle.heads.specs.Limits.{most_result}
use Rattle.heads.specs.Heads.{is_contract, CountRange, counts, is_count}
use Rattle.figures.specs.Figures.{settled_of, expected_of, is_bid}
use Rattle.records.specs.declared.Record.{Record}

-- the same number
abbrev pub equal : ℤ → ℤ → Bool
equal (pos m) (pos n) = eqb m n
equal (pos m) (negsuc n) = false
equal (negsuc m) (pos n) = false
equal (negsuc m) (negsuc n) = eqb m n

-- 'neither below zero', 'not below zero'
abbrev pub from_zero : ℤ → Bool
from_zero z = int_le (pos 0) z

-- an allowed contract (heads)
abbrev pub is_allowed : ℤ → Bool
is_allowed contract = from_zero contract && is_contract (or_zero contract)

-- 'settled from total'
abbrev pub settled_rule : Record → Bool
settled_rule r = equal r.settled (settled_of r.total)

-- 'expected from settled'
abbrev pub expected_rule : Record → Bool
expected_rule r = equal r.expected (pos (expected_of r.settled))

-- 'kept plus surplus equals expected, neither below zero'
abbrev pub split_rule : Record → Bool
split_rule r = from_zero r.kept && from_zero r.surplus && equal (r.kept +ℤ r.surplus) r.expected

-- 'bid from expected', 1 or 0
abbrev pub bid_rule : Record → Bool
bid_rule r = equal r.bid (pos (cond (is_bid (or_zero r.expected)) 1 0))

-- 'shortfall not below zero'
abbrev pub shortfall_rule : Record → Bool
shortfall_rule r = from_zero r.shortfall

-- 'where the shortfall is above 0, surplus 0 and settled plus shortfall an allowed contract'
abbrev pub missed_rule : Record → Bool
missed_rule r = not (int_lt (pos 0) r.shortfall) || equal r.surplus (pos 0) && is_allowed (r.settled +ℤ r.shortfall)

-- 'where it is 0, settled not below 0 and kept an allowed contract'
abbrev pub reached_rule : Record → Bool
reached_rule r = not (equal r.shortfall (pos 0)) || from_zero r.settled && is_allowed r.kept

-- 'points 1 to 10,000': as many as a head may count
abbrev pub points_rule : CountRange → Record → Bool
points_rule range r = from_zero r.points && is_count range (or_zero r.points)

-- 'total within 24,000,000,000 × points on either side of zero': six slots of 4,000,000,000
abbrev pub total_rule : Record → Bool
total_rule r = leb (nat_abs r.total) (window_slots * most_result * or_zero r.points)

-- THE TABLE, for a range of the points
abbrev pub rules : CountRange → Record → List Bool
rules range r =
    settled_rule r
    ∷ expected_rule r
    ∷ split_rule r
    ∷ bid_rule r
    ∷ shortfall_rule r
    ∷ missed_rule r
    ∷ reached_rule r
    ∷ points_rule range r
    ∷ total_rule r
    ∷ []

-- 'a record that breaks such a rule'
unfoldable pub breaks_within : CountRange → Record → Bool
breaks_within range r = any not (rules range r)

-- with the points that a head may count
abbrev pub breaks_rule : Record → Bool
breaks_rule r = breaks_within counts r
