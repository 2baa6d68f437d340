-- Slot results as the code works them out, and the days of no consumer. Assumes nothing.
use mathlib.Core.Path.{◌≡◌, refl, ap, ◌∙◌}
use mathlib.Core.Bool.{Bool, true, false, cond}
use mathlib.Core.List.{List, map}
use Prim.Native.Nat.{ℕ, zero, suc, ◌+◌, ◌*◌}
use native.Mathlib.Nat.{add_assoc}
use native.Mathlib.Omega.{arith}
use lib.Dec.{eqb}
use lib.IntN.{ℤ, pos, negsuc, ◌-ℤ◌, ◌*ℤ◌}
use lib.ListN.{drop}
use lib.Seq.{get_or-drop}
use borrow.Author.Tests.{ne_eqb}
use Rattle.numbers.specs.Lists.{run}
use Rattle.numbers.specs.Slots.{no_days, window_slots}
use Rattle.numbers.specs.Words.{word32}
use Rattle.integers.specs.Integers.{floor_div}
use Rattle.integers.proofs.Differences.{⊖s}
use Rattle.readings.specs.Readings.{reading_length}
use Rattle.heads.specs.declared.Head.{Head}
use Rattle.points.specs.Points.{generator, mixed_firing, unknown, kind_of, consumer_tag, generator_tag, mixed_firing_tag}
use Rattle.points.specs.Points.{generator_readings_at, mixed_firing_readings_at, baseline_of, share_of}
use Rattle.results.specs.SlotResults.{days_told, generator_quotient, generator_quotients, mixed_firing_quotient, mixed_firing_slot, mixed_firing_quotients, rounded}

-- multiplied first and subtracted then, or the other way round
pub scaled : (b u : ℕ) → pos (10_000 * b) -ℤ pos (240_000 * u) ≡ (pos b -ℤ pos (24 * u)) *ℤ pos 10_000
scaled b u = simp ⊖s (omega arith)

pub floor_one : (z : ℤ) → floor_div z 1 ≡ z
floor_one (pos n) = ap pos (omega arith)
floor_one (negsuc n) = ap negsuc (omega arith)

pub map_run {ℓ κ} : {A : Type ℓ} {B : Type κ} (f : A → B) (g : ℕ → A) (i n : ℕ) → map f (run g i n) ≡ run (λ j. f (g j)) i n
unfolding run
map_run f g i zero = refl
map_run f g i (suc n) = rw (map_run f g (suc i) n)

-- ---- a generator, slot by slot

word32_drop : (v : List ℕ) (n at : ℕ) → word32 (drop n v) at ≡ word32 v (n + at)
word32_drop v n at = simp (get_or-drop, add_assoc)

abbrev pub generator_at : List ℕ → ℕ → ℤ
generator_at v j = rounded (generator_quotient (baseline_of v) (word32 v (generator_readings_at + j * reading_length)))

pub generator_results : (v : List ℕ) → map rounded (generator_quotients v) ≡ run (generator_at v) 0 6
generator_results v =
    map_run rounded (λ j. generator_quotient (baseline_of v) (word32 (drop generator_readings_at v) (j * reading_length))) 0 6
    ∙ simp (word32_drop v generator_readings_at)

-- ---- a mixed-firing plant, slot by slot

abbrev pub mixed_firing_at : List ℕ → ℕ → ℤ
mixed_firing_at v j =
    let at = mixed_firing_readings_at in
    rounded (mixed_firing_quotient (share_of v) (word32 v (at + j * reading_length)) (word32 v (at + (window_slots + j) * reading_length)))

pub mixed_firing_results : (v : List ℕ) → map rounded (mixed_firing_quotients v) ≡ run (mixed_firing_at v) 0 6
mixed_firing_results v =
    map_run rounded (mixed_firing_slot v) 0 6 ∙ simp (word32_drop v mixed_firing_readings_at)

-- ---- the days that are told, of a point that is no consumer

pub no_days_lem : (h : Head) (marks : List ℕ) (tag : ℕ) (value : List ℕ) → (tag ≡ consumer_tag → ⊥) → days_told h marks (kind_of tag) value ≡ no_days
no_days_lem h marks tag value n = rw (ne_eqb tag consumer_tag n) (go (eqb tag generator_tag) (eqb tag mixed_firing_tag))
  where
    go : (g m : Bool) → days_told h marks (cond g generator (cond m mixed_firing unknown)) value ≡ no_days
    go true m = refl
    go false true = refl
    go false false = refl
