-- The closing figures (document 01, 'Closing figures').
use Rattle.std.specs.Prelude.{Bool, false, List, ℕ, ◌-◌, min, leb, ℤ, pos, ◌-ℤ◌}
use Rattle.integers.specs.Integers.{floor_div, or_zero, sum_ℤ}
use Rattle.heads.specs.Limits.{least_bid}
use Rattle.figures.specs.declared.Figures.{Figures}

-- 'total ÷ 3,000, rounded toward minus infinity, in kW'
abbrev pub settled_of : ℤ → ℤ
settled_of total = floor_div total 3_000

-- 'contract − settled, or 0 where that is negative; it exceeds the contract where the settled figure is below zero'
abbrev pub shortfall_of : ℕ → ℤ → ℕ
shortfall_of contract settled = or_zero (pos contract -ℤ settled)

-- 'settled, at least 0'
abbrev pub expected_of : ℤ → ℕ
expected_of settled = or_zero settled

-- 'the smaller of expected and contract'
abbrev pub kept_of : ℕ → ℤ → ℕ
kept_of contract settled = min (expected_of settled) contract

-- 'bid: yes exactly when expected is 1,000 or more'
abbrev pub is_bid : ℕ → Bool
is_bid expected = leb least_bid expected

-- all of them, from the contract, the slot totals and the points taken
unfoldable pub figures_of : ℕ → List ℤ → ℕ → Figures
figures_of contract totals points =
    let settled = settled_of (sum_ℤ totals) in
    record {
      total = sum_ℤ totals;
      settled = settled;
      shortfall = shortfall_of contract settled;
      expected = expected_of settled;
      kept = kept_of contract settled;
      surplus = expected_of settled - kept_of contract settled;
      points = points;
      bid = is_bid (expected_of settled);
    }

-- 'refused figures are zeros'
abbrev pub no_figures : Figures
no_figures = record { total = pos 0; settled = pos 0; shortfall = 0; expected = 0; kept = 0; surplus = 0; points = 0; bid = false }
