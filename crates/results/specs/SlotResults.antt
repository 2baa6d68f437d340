-- Slot results (document 01, and CR 1): of a point's value six quotients, and each of them rounded; the days that are told (CR 2).
use Rattle.std.specs.Prelude.{Bool, false, List, [], map, ℕ, ◌+◌, ◌*◌, ◌-◌, ℤ, pos, ◌-ℤ◌, ◌*ℤ◌, get_or}
use Rattle.numbers.specs.Lists.{run}
use Rattle.numbers.specs.Words.{word32}
use Rattle.numbers.specs.Slots.{no_days, window_slots}
use Rattle.integers.specs.Integers.{floor_div}
use Rattle.readings.specs.Readings.{reading_length, reading}
use Rattle.choosing.specs.Choosing.{is_few}
use Rattle.baseline.specs.Baseline.{chosen_days, baselines_on}
use Rattle.heads.specs.Heads.{test_day}
use Rattle.heads.specs.declared.Head.{Head}
use Rattle.points.specs.Points.{Kind, consumer, generator, mixed_firing, unknown, class_of, baseline_of, share_of, readings_of}

-- the four days of a consumer's value
abbrev pub days_of : Head → List ℕ → List ℕ → List ℕ
days_of h marks value = chosen_days (test_day h) marks (readings_of consumer value) h.slot

-- 18: 'fewer than four days', which since CR 5 is where fewer than four are eligible (`TooFewEligible`)
abbrev pub lacks_days : Head → List ℕ → Kind → List ℕ → Bool
lacks_days h marks consumer value = is_few (days_of h marks value)
lacks_days h marks generator value = false
lacks_days h marks mixed_firing value = false
lacks_days h marks unknown value = false

-- CR 2: 'the four chosen days as numbers back, 1 to 30, nearest first'; 'other point kinds give four zeros'
abbrev pub days_told : Head → List ℕ → Kind → List ℕ → List ℕ
days_told h marks consumer value = days_of h marks value
days_told h marks generator value = no_days
days_told h marks mixed_firing value = no_days
days_told h marks unknown value = no_days

-- A slot result before it is rounded: num ÷ den, in Wh.
pub record Quotient : Type 0 where
  pub num : ℤ
  pub den : ℕ

-- '(baseline − 24 × use in slot j) × 10,000 ÷ (24 × (10,000 − loss))'
abbrev pub consumer_quotient : ℕ → ℕ → ℕ → Quotient
consumer_quotient loss base used = record { num = (pos base -ℤ pos (24 * used)) *ℤ pos 10_000; den = 24 * (10_000 - loss) }

-- 'reading − 500 × its baseline in kW': no division
abbrev pub generator_quotient : ℕ → ℕ → Quotient
generator_quotient kilowatt metered = record { num = pos metered -ℤ pos (500 * kilowatt); den = 1 }

-- CR 1: 'the two readings together × (1,000 − share) ÷ 1,000'
abbrev pub mixed_firing_quotient : ℕ → ℕ → ℕ → Quotient
mixed_firing_quotient share outside inside = record { num = pos ((outside + inside) * (1_000 - share)); den = 1_000 }

-- 'Loss is that of the consumer's voltage class'
abbrev pub loss_of : Head → List ℕ → ℕ
loss_of h value = get_or h.losses (class_of value - 1) 0

-- the six slot results of a consumer before they are rounded, by its baseline on some days
abbrev pub consumer_quotients_on : Head → List ℕ → List ℕ → List Quotient
consumer_quotients_on h value days =
    let readings = readings_of consumer value in
    let bases = baselines_on readings days h.slot in
    run (λ j. consumer_quotient (loss_of h value) (get_or bases j 0) (reading readings 0 (h.slot + j))) 0 window_slots

-- and on the days chosen
abbrev pub consumer_quotients : Head → List ℕ → List ℕ → List Quotient
consumer_quotients h marks value = consumer_quotients_on h value (days_of h marks value)

-- those of a generator
abbrev pub generator_quotients : List ℕ → List Quotient
generator_quotients value =
    run (λ j. generator_quotient (baseline_of value) (word32 (readings_of generator value) (j * reading_length))) 0 window_slots

-- slot j of a mixed-firing plant: the readings of the part inside the tariff follow the six of the part outside it
abbrev pub mixed_firing_slot : List ℕ → ℕ → Quotient
mixed_firing_slot value j =
    let readings = readings_of mixed_firing value in
    let outside = word32 readings (j * reading_length) in
    let inside = word32 readings ((window_slots + j) * reading_length) in
    mixed_firing_quotient (share_of value) outside inside

-- its six
abbrev pub mixed_firing_quotients : List ℕ → List Quotient
mixed_firing_quotients value = run (mixed_firing_slot value) 0 window_slots

-- those of a point
unfoldable pub quotients : Head → List ℕ → Kind → List ℕ → List Quotient
quotients h marks consumer value = consumer_quotients h marks value
quotients h marks generator value = generator_quotients value
quotients h marks mixed_firing value = mixed_firing_quotients value
quotients h marks unknown value = []

-- 'rounded toward minus infinity'
abbrev pub rounded : Quotient → ℤ
rounded q = floor_div q.num q.den

-- the six slot results
abbrev pub results : Head → List ℕ → Kind → List ℕ → List ℤ
results h marks kind value = map rounded (quotients h marks kind value)
