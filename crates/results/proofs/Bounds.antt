-- How large the slot results are. Assumes nothing.
use mathlib.Core.Path.{◌≡◌}
use mathlib.Core.Bool.{Bool, false, true≢false}
use mathlib.Core.List.{List}
use Prim.Native.Nat.{ℕ, ◌+◌, ◌*◌, ◌-◌, ◌≤◌, ◌<◌}
use native.Mathlib.Nat.{mul-le-mul_left, lt_of_mul-lt-mul_right}
use native.Mathlib.Omega.{arith}
use lib.Dec.{T, ltb}
use lib.IntN.{ℤ, pos, nat_abs, ◌+ℤ◌, ◌-ℤ◌, ◌*ℤ◌}
use lib.Signed.{◌≤ℤ◌, ◌<ℤ◌}
use lib.ListN.{length, get_or, length-map}
use mir.Facts.{no_ltb}
use borrow.Author.Tests.{ltb-false, le-ltb}
use Rattle.numbers.specs.Lists.{run, any}
use Rattle.numbers.proofs.Filling.{run_length, any_none}
use Rattle.integers.proofs.Differences.{by⊖, ⊖s}
use Rattle.integers.proofs.Floors.{floor_low, floor_high}
use Rattle.readings.specs.Readings.{most_reading}
use Rattle.readings.proofs.Large.{none_large}
use Rattle.readings.proofs.Bounds.{reading_bound}
use Rattle.baseline.specs.Consumers.{most_consumer_baseline}
use Rattle.baseline.proofs.Bounds.{baselines_bound}
use Rattle.heads.specs.Limits.{most_loss, most_baseline, most_share, most_result}
use Rattle.heads.specs.Heads.{test_day}
use Rattle.heads.proofs.Opening.{Opens}
use Rattle.points.proofs.TooLarge.{all_tested}
use Rattle.points.specs.Points.{Kind, consumer, generator, mixed_firing, unknown, is_unknown, is_unfit, has_large, readings_of, baseline_of, share_of}
use Rattle.results.proofs.SlotResults.{floor_one}
use Rattle.results.specs.SlotResults.{Quotient, loss_of, consumer_quotient, generator_quotient, mixed_firing_quotient, quotients, rounded, results}
use Rattle.heads.specs.declared.Head.{Head}
use Rattle.numbers.proofs.Tests.{no_false, none_of, none_run}

-- ---- slot results

-- beyond a limit on either side of zero
abbrev pub is_beyond : ℕ → ℤ → Bool
is_beyond most z = ltb most (nat_abs z)

-- none of some numbers is beyond it
pub none_beyond : (most : ℕ) (zs : List ℤ) → T (none_of (is_beyond most) zs) → (i : ℕ) → nat_abs (get_or zs i (pos 0)) ≤ most
none_beyond most zs t i = ltb-false _ _ (any_none (is_beyond most) (pos 0) (le-ltb most 0 (omega arith)) zs (no_false _ t) i)

-- b the baseline in twenty-fourths, u the use: between −2,000,000,000 and 4,000,000,000
consumer_small : (loss b u : ℕ) → loss ≤ most_loss → b ≤ most_consumer_baseline → u ≤ most_reading
    → nat_abs (rounded (consumer_quotient loss b u)) ≤ most_result
consumer_small loss b u hl hb hu =
    let q = consumer_quotient loss b u in
    go (10_000 - loss) (omega arith) (rounded q) (floor_low q.num q.den (omega arith)) (floor_high q.num q.den (omega arith))
  where
    go : (p : ℕ) → 5_000 ≤ p → (q : ℤ) → (q *ℤ pos (24 * p)) ≤ℤ (consumer_quotient loss b u).num
        → (consumer_quotient loss b u).num <ℤ (q *ℤ pos (24 * p) +ℤ pos (24 * p)) → nat_abs q ≤ most_result
    go p hp = by⊖ _ λ a a'. simp ⊖s λ l h.
        let i : a < a' + 4_000_000_001 = lt_of_mul-lt-mul_right p (omega arith) in
        let j : a' < a + 2_000_000_002 = lt_of_mul-lt-mul_right p (omega arith) in
        omega arith

generator_small : (kilowatt metered : ℕ) → kilowatt ≤ most_baseline → metered ≤ most_reading → nat_abs (rounded (generator_quotient kilowatt metered)) ≤ most_result
generator_small kilowatt metered hk hm = rw (floor_one (pos metered -ℤ pos (500 * kilowatt))) (simp ⊖s (omega arith))

-- a share of something, and what it leaves, are at most the whole: both, so that a wrong share fails at its result and not here
pub share_most : (whole share : ℕ) → share ≤ most_share → (whole * share ≤ whole * 1_000) × (whole * (1_000 - share) ≤ whole * 1_000)
share_most whole share h = (mul-le-mul_left whole h, mul-le-mul_left whole (omega arith))

-- both readings at most, nothing of them biomass: 2,000,000,000
mixed_firing_small : (share outside inside : ℕ) → share ≤ most_share → outside ≤ most_reading → inside ≤ most_reading
    → nat_abs (rounded (mixed_firing_quotient share outside inside)) ≤ most_result
mixed_firing_small share outside inside hs ho hi = omega (arith, share_most (outside + inside) share hs)

-- ---- all six

-- six quotients, each small once it is rounded
none_of_six : (q : ℕ → Quotient) → ((j : ℕ) → j < 6 → nat_abs (rounded (q (0 + j))) ≤ most_result)
    → T (none_of (λ q. is_beyond most_result (rounded q)) (run q 0 6))
none_of_six q h = none_run (λ q. is_beyond most_result (rounded q)) q 0 6 λ j l. no_ltb (h j l)

module _ (h : Head) (marks value : List ℕ) where
  -- what is due of a kind of point
  abbrev pub SmallResults : Kind → Type 0
  SmallResults kind =
      is_unfit kind value ≡ false → has_large kind value ≡ false
      → T (none_of (λ q. is_beyond most_result (rounded q)) (quotients h marks kind value))

  consumers_small : Opens h → SmallResults consumer
  unfolding quotients
  consumers_small o fit small = none_of_six _ λ j l.
      let readings = readings_of consumer value in
      let tested = all_tested consumer value small in
      consumer_small (loss_of h value) _ _ (o.losses _)
      (baselines_bound (test_day h) marks readings h.slot tested (omega (arith, o.last_slot)) (0 + j))
      (reading_bound readings tested 0 (h.slot + (0 + j)) (omega arith) (omega arith))

  generators_small : SmallResults generator
  unfolding quotients
  generators_small fit small = none_of_six _ λ j l.
      generator_small (baseline_of value) _ (ltb-false _ _ fit)
      (none_large (readings_of generator value) 6 (0 + j) (all_tested generator value small) (omega arith))

  plants_small : SmallResults mixed_firing
  unfolding quotients
  plants_small fit small = none_of_six _ λ j l.
      let reading = none_large (readings_of mixed_firing value) 12 in
      let tested = all_tested mixed_firing value small in
      mixed_firing_small (share_of value) _ _ (ltb-false _ _ fit) (reading (0 + j) tested (omega arith)) (reading (6 + (0 + j)) tested (omega arith))

-- ---- by kind of point: a line for each

module _ (h : Head) (marks : List ℕ) where
  pub small_by : Opens h → (kind : Kind) (value : List ℕ) → SmallResults h marks value kind
  unfolding quotients any
  small_by o consumer value = consumers_small h marks value o
  small_by o generator value = generators_small h marks value
  small_by o mixed_firing value = plants_small h marks value
  small_by o unknown value = λ fit small. tt

  pub six_by : (kind : Kind) (value : List ℕ) → is_unknown kind ≡ false → length (quotients h marks kind value) ≡ 6
  unfolding quotients
  six_by consumer value e = run_length _ 0 6
  six_by generator value e = run_length _ 0 6
  six_by mixed_firing value e = run_length _ 0 6
  six_by unknown value e = absurd (true≢false e)

  pub six_results : (kind : Kind) (value : List ℕ) → is_unknown kind ≡ false → length (results h marks kind value) ≡ 6
  six_results kind value e = simp length-map (six_by kind value e)
