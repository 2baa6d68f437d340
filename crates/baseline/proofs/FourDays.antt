-- The chosen days are four different eligible days that rise, and the baseline on some days takes nothing else of the days back. Assumes
-- nothing.
use mathlib.Core.Path.{◌≡◌, ap, ◌∙◌}
use mathlib.Core.List.{List}
use Prim.Native.Nat.{ℕ, ◌+◌, ◌-◌, ◌<◌, ◌≤◌}
use native.Mathlib.Omega.{arith}
use lib.ListN.{length, get_or}
use borrow.Author.Tests.{ltb-false}
use Rattle.numbers.specs.Lists.{run, sum}
use Rattle.numbers.specs.Slots.{days_back, days_used, window_slots}
use Rattle.numbers.proofs.Filling.{run_from}
use Rattle.calendar.specs.Eligible.{is_eligible}
use Rattle.readings.specs.Readings.{reading, window_sum, window_sums, slot_sum, slot_sums, earlier_slot, earlier_use}
use Rattle.readings.proofs.Sums.{run_same, days_same}
use Rattle.choosing.proofs.SomeOf.{in_place, in_some, in_filter}
use Rattle.choosing.proofs.Rising.{rising_at, rising_order}
use Rattle.baseline.specs.Baseline.{chosen_days, day_sums, baseline}
use Rattle.baseline.specs.FourDays.{ChosenAreFour, SumsOfDays, SameOn, OnTheseDays}
use Rattle.baseline.proofs.Bounds.{chosen_days_few, chosen_days_rising}

pub chosen_are_four : ChosenAreFour
chosen_are_four test marks readings s e =
    let days = chosen_days test marks readings s in
    let rising = chosen_days_rising test marks readings s in
    let few = chosen_days_few test marks readings s in
    let most : length days ≤ days_used = few.0 in
    let least : days_used ≤ length days = ltb-false (length days) days_used e in
    record {
      four = omega arith;
      rise = λ i j h l. rising_order i j h (omega arith) rising;
      differ = λ i j h l q. omega (arith, rising_order i j (omega arith) (omega arith) rising);
      within = λ i l. let at = rising_at i (omega arith) rising in (omega arith, omega arith);
      eligible = λ i l. in_filter (is_eligible test marks) _ (in_some few.1 (in_place days i (omega arith)));
    }

pub sums_of_days : SumsOfDays
unfolding window_sums
sums_of_days readings s k l h =
    let same : 1 + (k - 1) ≡ k = omega arith in
    run_from (window_sum readings s) 1 days_back (k - 1) 0 (omega arith) ∙ ap (window_sum readings s) same

-- six slots from slot i on, over some days
slots_same : (days readings others : List ℕ) (i : ℕ)
    → ((d j : ℕ) → d < length days → j < window_slots → reading readings (get_or days d 0) (i + j) ≡ reading others (get_or days d 0) (i + j))
    → slot_sums readings days i ≡ slot_sums others days i
unfolding slot_sums
slots_same days readings others i h =
    run_same (slot_sum readings days) (slot_sum others days) i window_slots
    λ j l. days_same (λ k. reading readings k (i + j)) (λ k. reading others k (i + j)) days λ d m. h d j m l

module _ {days : List ℕ} {s : ℕ} {readings others : List ℕ} (same : SameOn days s readings others) where
  sums_same : day_sums readings days s ≡ day_sums others days s
  unfolding day_sums
  sums_same =
      let window = slots_same days readings others s λ d j h l. same.window d j (omega arith) (omega arith) in
      let earlier = slots_same days readings others (earlier_slot s) λ d j h l. same.earlier d j (omega arith) (omega arith) in
      rw (window, earlier)

  earlier_same : earlier_use readings s ≡ earlier_use others s
  unfolding earlier_use
  earlier_same = ap sum (run_same (reading readings 0) (reading others 0) (earlier_slot s) window_slots λ j l. same.test j (omega arith))

pub on_these_days : OnTheseDays
on_these_days days s readings others same =
    ap (λ sums. run (baseline sums (earlier_use readings s)) 0 window_slots) (sums_same same)
    ∙ ap (λ earlier. run (baseline (day_sums others days s) earlier) 0 window_slots) (earlier_same same)
