-- The limits of document 01 and of the change requests to it, each named once.
use Rattle.std.specs.Prelude.{ℕ}

-- s, the first slot of the window: 9:00, and 17:00 for a window that ends at 20:00
abbrev pub earliest_slot : ℕ
earliest_slot = 18

abbrev pub latest_slot : ℕ
latest_slot = 34

-- hundredths of a percent
abbrev pub most_loss : ℕ
most_loss = 5_000

-- kW
abbrev pub least_contract : ℕ
least_contract = 1_000

abbrev pub most_contract : ℕ
most_contract = 10_000_000

-- of a list
abbrev pub least_points : ℕ
least_points = 1

abbrev pub most_points : ℕ
most_points = 10_000

-- Wh, of one slot result on either side of zero
abbrev pub most_result : ℕ
most_result = 4_000_000_000

-- the voltage classes of consumers: 1 low, 2 high, 3 extra-high
abbrev pub low_class : ℕ
low_class = 1

abbrev pub extra_high_class : ℕ
extra_high_class = 3

-- kW, of a generator
abbrev pub most_baseline : ℕ
most_baseline = 1_000_000

-- tenths of a percent, of a mixed-firing plant's biomass (CR 1)
abbrev pub most_share : ℕ
most_share = 1_000

-- kW, of an expected capacity that may be bid
abbrev pub least_bid : ℕ
least_bid = 1_000
