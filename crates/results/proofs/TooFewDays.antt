-- 18 is due where fewer than four days are eligible. Assumes nothing.
use mathlib.Core.Path.{◌≡◌, refl}
use mathlib.Core.Bool.{false}
use mathlib.Core.List.{List}
use Prim.Native.Nat.{ℕ}
use Rattle.numbers.specs.Slots.{days_back}
use Rattle.calendar.specs.Eligible.{of_day, is_eligible, eligible_days}
use Rattle.readings.specs.Readings.{window_sums}
use Rattle.choosing.proofs.Flags.{tested_rising}
use Rattle.choosing.proofs.Lowest.{chosen_lack}
use Rattle.heads.specs.Heads.{test_day}
use Rattle.heads.specs.declared.Head.{Head}
use Rattle.points.specs.Points.{Kind, consumer, generator, mixed_firing, unknown, readings_of}
use Rattle.results.specs.SlotResults.{lacks_days}
use Rattle.results.specs.TooFewDays.{TooFewEligible}

no_other_lacks : (h : Head) (marks value : List ℕ) (kind : Kind) → (kind ≡ consumer → ⊥) → lacks_days h marks kind value ≡ false
no_other_lacks h marks value consumer n = absurd (n refl)
no_other_lacks h marks value generator n = refl
no_other_lacks h marks value mixed_firing n = refl
no_other_lacks h marks value unknown n = refl

pub too_few_eligible : TooFewEligible
too_few_eligible h marks value = record {
  consumers = chosen_lack (of_day (window_sums (readings_of consumer value) h.slot)) (eligible_days (test_day h) marks)
      (tested_rising (is_eligible (test_day h) marks) days_back);
  others = no_other_lacks h marks value;
}
