-- Adding tells 18 where fewer than four days are eligible. Assumes nothing.
use mathlib.Core.Path.{◌≡◌, refl, sym, ap, ◌∙◌}
use mathlib.Core.Bool.{Bool, true, false, cond, true≢false}
use mathlib.Core.List.{List, [], ◌++◌}
use mathlib.Core.Logic.{⊎_elim}
use Prim.Native.Nat.{ℕ, ◌<◌, ◌≤◌}
use native.Mathlib.Decide.{ℕ_discrete}
use native.Mathlib.Omega.{arith}
use borrow.Author.Tests.{ne_eqb, lt-ltb, ltb-true, ltb-false}
use lib.Dec.{T, eqb, ltb}
use lib.ListN.{length}
use Rattle.numbers.specs.Lists.{any}
use Rattle.numbers.proofs.Refusals.{numbered, passed, untold}
use Rattle.numbers.proofs.NeverTold.{Without, told_within}
use Rattle.calendar.specs.Eligible.{eligible_days}
use Rattle.heads.specs.Heads.{test_day}
use Rattle.points.specs.Points.{Kind, consumer, generator, mixed_firing, unknown, kind_of, consumer_tag, generator_tag, mixed_firing_tag, unfit_number, large_number, large_at, value_rows}
use Rattle.points.proofs.PointKinds.{of_tag, unfit_above, large_number_lem, large_above}
use Rattle.results.specs.SlotResults.{lacks_days}
use Rattle.results.proofs.TooFewDays.{too_few_eligible}
use Rattle.ledger.specs.Operations.{unsound_row, before_value, days_row, adding_refusal, early_refusal}
use Rattle.ledger.specs.declared.State.{State}
use Rattle.ledger.proofs.Sound.{add_refusal}
use Rattle.ledger.proofs.AddSteps.{accepted}
use Rattle.calls.specs.Eighteen.{AddingTellsEighteen}

abbrev is_18 : ℕ → Bool
is_18 n = eqb n 18

unfit_not_18 : (kind : Kind) → is_18 (unfit_number kind) ≡ false
unfit_not_18 consumer = refl
unfit_not_18 generator = refl
unfit_not_18 mixed_firing = refl
unfit_not_18 unknown = refl

large_not_18 : (kind : Kind) (index : ℕ) → is_18 (large_number kind index) ≡ false
large_not_18 kind index = ne_eqb _ _ (λ e. ⊎_elim (λ l. omega (arith, l)) (λ l. omega (arith, l)) (large_number_lem kind index))

-- a point of another kind lacks no days
others_lack_none : (state : State) (tag : ℕ) (value : List ℕ) → (tag ≡ consumer_tag → ⊥) → lacks_days state.head state.marks (kind_of tag) value ≡ false
others_lack_none state tag value n = rw (ne_eqb tag consumer_tag n) (go (eqb tag generator_tag) (eqb tag mixed_firing_tag))
  where
    go : (a b : Bool) → lacks_days state.head state.marks (cond a generator (cond b mixed_firing unknown)) value ≡ false
    go true b = refl
    go false true = refl
    go false false = refl

module _ (state : State) (tag : ℕ) (value : List ℕ) (places : ℕ) where
  abbrev before : List (Bool × ℕ)
  before = unsound_row state ++ before_value state.head state.points state.last tag value places ++ value_rows tag value

  numbers_before : T (numbered before)
  numbers_before =
      let unfit : 0 < unfit_number (kind_of tag) = omega (arith, unfit_above (kind_of tag)) in
      let large : 0 < large_number (kind_of tag) (large_at (kind_of tag) value) =
      omega (arith, large_above (large_number_lem (kind_of tag) (large_at (kind_of tag) value))) in
      rw (lt-ltb _ _ unfit, lt-ltb _ _ large) tt

  none_before : Without is_18 before
  unfolding any
  none_before = rw (unfit_not_18 (kind_of tag), large_not_18 (kind_of tag) (large_at (kind_of tag) value)) tt

  lacks : adding_refusal state tag value places ≡ 18 → lacks_days state.head state.marks (kind_of tag) value ≡ true
  unfolding adding_refusal any
  lacks e =
      let row = days_row state.head state.marks tag value in
      let told = told_within is_18 before row [] numbers_before tt refl none_before tt (ap is_18 e) in
      go (lacks_days state.head state.marks (kind_of tag) value) (sym told.1 ∙ e)
    where
      go : (b : Bool) → ◌≡◌ {A = ℕ} (cond b 18 0) 18 → b ≡ true
      go true f = refl
      go false f = absurd (omega arith)

  -- a consumer has its days, or lacks them
  eligible : tag ≡ consumer_tag → lacks_days state.head state.marks (kind_of tag) value ≡ ltb (length (eligible_days (test_day state.head) state.marks)) 4
  eligible t = rw (of_tag tag consumer_tag t) (too_few_eligible state.head state.marks value).consumers

  only : adding_refusal state tag value places ≡ 18 → (tag ≡ consumer_tag) × (length (eligible_days (test_day state.head) state.marks) < 4)
  only e = go (ℕ_discrete tag consumer_tag)
    where
      go : Dec (tag ≡ consumer_tag) → (tag ≡ consumer_tag) × (length (eligible_days (test_day state.head) state.marks) < 4)
      go (yes t) = (t, ltb-true _ _ (sym (eligible t) ∙ lacks e))
      go (no n) = absurd (true≢false (sym (lacks e) ∙ others_lack_none state tag value n))

  due : early_refusal state tag value places ≡ 0 → tag ≡ consumer_tag → length (eligible_days (test_day state.head) state.marks) < 4
      → adding_refusal state tag value places ≡ 18
  unfolding early_refusal adding_refusal
  due e t few =
      let row = days_row state.head state.marks tag value in
      let lacking : lacks_days state.head state.marks (kind_of tag) value ≡ true = eligible t ∙ lt-ltb _ _ few in
      passed before row numbers_before e ∙ rw lacking refl

  taken : adding_refusal state tag value places ≡ 0 → tag ≡ consumer_tag → 4 ≤ length (eligible_days (test_day state.head) state.marks)
  taken e t =
      let row = days_row state.head state.marks tag value in
      ltb-false _ _ (sym (eligible t) ∙ untold row tt (sym (accepted state tag value places e).days ∙ e) 18)

pub adding_tells_eighteen : AddingTellsEighteen
adding_tells_eighteen state tag value places =
    let refusal = add_refusal state tag value places in
    record { only = λ e. only state tag value places (sym refusal ∙ e); due = λ e t few. refusal ∙ due state tag value places e t few; taken = λ e. taken state tag value places (sym refusal ∙ e) }
