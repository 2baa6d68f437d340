-- Three sequences of calls worked out by hand: what the program replies and what the account says, with the figures.
use Rattle.std.specs.Prelude.{◌≡◌, false, List, [], ◌∷◌, ◌++◌, map, ℕ, ◌+◌, ◌*◌, pos, take, replicate}
use Rattle.numbers.specs.Lists.{gather}
use Rattle.numbers.specs.Words.{bytes_of}
use Rattle.heads.specs.Heads.{head_of}
use Rattle.ledger.specs.Operations.{open_of, places_of}
use Rattle.calls.specs.Calls.{Call, adding, closing, Reply, refused, accepted, closed, program}
use Rattle.account.specs.Account.{Said, account, parts_of_kilowatt, parts_of_watt}
use Rattle.worked_examples.specs.Examples.{head, high_voltage}
use Rattle.figures.specs.declared.Figures.{Figures}

-- the head of the examples with two points to come: contract 1,000 kW, losses 700, 400, 200
abbrev pub two_points : List ℕ
two_points = take 15 head ++ bytes_of 2 2

-- a point number of 21 digits 0 and one more
abbrev pub number_ending : ℕ → List ℕ
number_ending digit = replicate 21 48 ++ digit ∷ []

-- a generator: its number, a baseline in kW and six readings
abbrev pub generator_of : ℕ → ℕ → List ℕ → List ℕ
generator_of digit kilowatt readings = number_ending digit ++ bytes_of 4 kilowatt ++ gather (bytes_of 4) readings

-- A closing too early, a generator with too high a baseline, the generator, a closing too early, a high-voltage consumer of the examples
-- with earlier readings of 1,200, a point too many, the closing.
abbrev pub calls_with : ℕ → ℕ → List Call
calls_with metered in_use =
    closing
    ∷ adding 4 (generator_of 49 1_000_001 (replicate 6 metered)) 6
    ∷ adding 4 (generator_of 49 0 (replicate 6 metered)) 6
    ∷ closing
    ∷ adding 3 (high_voltage 1_200 in_use) 6
    ∷ adding 4 (generator_of 49 0 (replicate 6 metered)) 6
    ∷ closing
    ∷ []

-- what is replied to them, and said, up to the last closing
abbrev pub replies_with : Figures → List Reply
replies_with figures = accepted ∷ refused 20 ∷ refused 16 ∷ accepted ∷ refused 20 ∷ accepted ∷ refused 10 ∷ closed figures ∷ []

abbrev pub said_with : ℕ → List Said
said_with exact =
    Said.accepted
    ∷ Said.refused
    ∷ Said.refused
    ∷ Said.accepted
    ∷ Said.refused
    ∷ Said.accepted
    ∷ Said.refused
    ∷ Said.closed exact
    ∷ []

-- readings and a use, the figures, and the exact shortfall in parts
abbrev pub WorkedOut : ℕ → ℕ → Figures → ℕ → Type 0
WorkedOut metered in_use figures exact =
    (program two_points (replicate 30 0) (calls_with metered in_use) ≡ replies_with figures)
    × (account two_points (replicate 30 0) (calls_with metered in_use) ≡ said_with exact)

-- 72,000,000 × 9,300 × 9,600 × 9,800 parts to a kW
abbrev pub kilowatt : ℕ
kilowatt = 62_995_968_000_000_000_000

abbrev pub PartsOfKilowatt : Type 0
PartsOfKilowatt = (parts_of_kilowatt (head_of two_points) ≡ kilowatt) × (1_000 * parts_of_watt (head_of two_points) ≡ kilowatt)

-- WITH A REMAINDER: readings of 100,000 and a use of 241. The generator gives 6 × 100,000. The consumer's baseline is 24 × 1,200 = 28,800,
-- so a slot gives (28,800 − 24 × 241) × 10,000 ÷ (24 × 9,600) = 998 and a rest: 998.9583.. unrounded. The total is 600,000 + 6 × 998 =
-- 605,988, which is 201 × 3,000 and a rest; the shortfall is 1,000 − 201 = 799.
--
-- Unrounded, the total is 600,000 + 6 × 998.9583.. = 605,993.75, and the shortfall 1,000 − 605,993.75 ÷ 3,000 = 798 + 1/480 kW. A kW has
-- 72,000,000 × 9,300 × 9,600 × 9,800 = 62,995,968,000,000,000,000 parts, and a 480th of it 131,241,600,000,000,000. So the printed
-- shortfall is the greater by 479/480 of a kW, which is less than a kW and four watts.
abbrev pub WithRemainder : Type 0
WithRemainder =
    WorkedOut 100_000 241
    (record { total = pos 605_988; settled = pos 201; shortfall = 799; expected = 201; kept = 201; surplus = 0; points = 2; bid = false })
    (798 * kilowatt + 131_241_600_000_000_000)
    × (799 * kilowatt ≡ (798 * kilowatt + 131_241_600_000_000_000) + 479 * 131_241_600_000_000_000)

-- WITHOUT ONE: readings of 99,000 and a use of 240. A slot of the consumer gives (28,800 − 24 × 240) × 10,000 ÷ (24 × 9,600) = 1,000, the
-- total is 594,000 + 6,000 = 600,000 = 200 × 3,000, and both shortfalls are 800 kW.
abbrev pub WithoutRemainder : Type 0
WithoutRemainder =
    WorkedOut 99_000 240
    (record { total = pos 600_000; settled = pos 200; shortfall = 800; expected = 200; kept = 200; surplus = 0; points = 2; bid = false })
    (800 * kilowatt)

-- MIXED-FIRING PLANTS (CR 1): a number, a share, six readings outside the tariff and six inside it.
abbrev pub mixed_firing_of : ℕ → ℕ → List ℕ → List ℕ → List ℕ
mixed_firing_of digit share outside inside = number_ending digit ++ bytes_of 2 share ++ gather (bytes_of 4) (outside ++ inside)

abbrev pub outside_tariff : List ℕ
outside_tariff = 100_001 ∷ 200_001 ∷ 300_001 ∷ 400_001 ∷ 500_001 ∷ 600_001 ∷ []

abbrev pub inside_tariff : List ℕ
inside_tariff = 1 ∷ 2 ∷ 3 ∷ 4 ∷ 5 ∷ 6 ∷ []

-- the last of the twelve alone is above the limit
abbrev pub last_too_large : List ℕ
last_too_large = 1 ∷ 2 ∷ 3 ∷ 4 ∷ 5 ∷ 1_000_000_001 ∷ []

-- thirty marks of 1: such a plant needs no days
abbrev pub all_marked : List ℕ
all_marked = replicate 30 1

-- A closing too early, a share above 1,000 with a reading above the limit, this reading alone, the plant with a share of 33.3 %, its number
-- again with a share above 1,000, a plant that burns biomass alone, the closing.
abbrev pub plant_calls : List Call
plant_calls =
    closing
    ∷ adding 5 (mixed_firing_of 49 1_001 outside_tariff last_too_large) 6
    ∷ adding 5 (mixed_firing_of 49 333 outside_tariff last_too_large) 6
    ∷ adding 5 (mixed_firing_of 49 333 outside_tariff inside_tariff) 6
    ∷ adding 5 (mixed_firing_of 49 1_001 outside_tariff inside_tariff) 6
    ∷ adding 5 (mixed_firing_of 50 1_000 outside_tariff inside_tariff) 6
    ∷ closing
    ∷ []

-- 100,002 × 667 ÷ 1,000 = 66,701.334 and so on: 66,701, 133,402, 200,102, 266,803, 333,504 and 400,204. Rounded apart, the two readings of
-- the first slot would give 66,700.
abbrev pub PlantSlots : Type 0
PlantSlots =
    places_of (open_of two_points all_marked).state 5 (mixed_firing_of 49 333 outside_tariff inside_tariff) (replicate 6 (pos 0))
    ≡ map pos (66_701 ∷ 133_402 ∷ 200_102 ∷ 266_803 ∷ 333_504 ∷ 400_204 ∷ [])

-- The total is 1,400,716, which is 466 × 3,000 and a rest; the shortfall is 1,000 − 466 = 534.
abbrev pub plant_figures : Figures
plant_figures =
    record { total = pos 1_400_716; settled = pos 466; shortfall = 534; expected = 466; kept = 466; surplus = 0; points = 2; bid = false }

-- a milliwatt, a millionth of a kW
abbrev pub milliwatt : ℕ
milliwatt = 62_995_968_000_000

-- Unrounded, the total is 2,100,027 × 0.667 = 1,400,718.009, and the shortfall 1,000 − 1,400,718.009 ÷ 3,000 = 533.093997 kW. So the printed
-- shortfall is the greater by 906,003 millionths of a kW.
abbrev pub WithPlants : Type 0
WithPlants =
    let exact = 533 * kilowatt + 93_997 * milliwatt in
    (program two_points all_marked plant_calls
    ≡ accepted ∷ refused 20 ∷ refused 50 ∷ refused 51 ∷ accepted ∷ refused 15 ∷ accepted ∷ closed plant_figures ∷ [])
    × (account two_points all_marked plant_calls
    ≡ Said.accepted ∷ Said.refused ∷ Said.refused ∷ Said.refused ∷ Said.accepted ∷ Said.refused ∷ Said.accepted ∷ Said.closed exact ∷ [])
    × (534 * kilowatt ≡ exact + 906_003 * milliwatt)

-- THE WORKED SEQUENCES
abbrev pub WorkedSequences : Type 0
WorkedSequences = PartsOfKilowatt × WithRemainder × WithoutRemainder × PlantSlots × WithPlants
