-- The slot result of a consumer at the numbers of document 01's examples: high voltage, loss 400, a baseline of 24 × 1,200; and that of a
-- mixed-firing plant, worked out by hand. Assumes nothing.
use mathlib.Core.Path.{◌≡◌, refl}
use lib.IntN.{pos, negsuc}
use Rattle.results.specs.SlotResults.{consumer_quotient, mixed_firing_quotient, rounded}

-- use 240 (H), 241 (I), 1,200 and 1,201 (J)
pub slot_examples : (rounded (consumer_quotient 400 28_800 240) ≡ pos 1_000)
    × (rounded (consumer_quotient 400 28_800 241) ≡ pos 998)
    × (rounded (consumer_quotient 400 28_800 1_200) ≡ pos 0)
    × (rounded (consumer_quotient 400 28_800 1_201) ≡ negsuc 1)
slot_examples = (refl, refl, refl, refl)

-- 100,002 × 667 ÷ 1,000 = 66,701.334; 1 × 1 ÷ 1,000; biomass alone; none
pub mixed_firing_examples : (rounded (mixed_firing_quotient 333 100_001 1) ≡ pos 66_701)
    × (rounded (mixed_firing_quotient 999 1 0) ≡ pos 0)
    × (rounded (mixed_firing_quotient 1_000 100_001 1) ≡ pos 0)
    × (rounded (mixed_firing_quotient 0 100_001 1) ≡ pos 100_002)
mixed_firing_examples = (refl, refl, refl, refl)
