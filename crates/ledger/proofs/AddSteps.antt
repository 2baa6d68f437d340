-- Adding in steps: the early refusals, then the days. Assumes nothing.
use mathlib.Core.Path.{◌≡◌, ap, sym, ◌∙◌, refl}
use mathlib.Core.Bool.{true, false, true≢false}
use mathlib.Core.List.{List}
use Prim.Native.Nat.{ℕ, ◌+◌, ◌^◌, ◌<◌, ◌≤◌}
use native.Mathlib.Omega.{arith}
use lib.IntN.{ℤ, pos, nat_abs}
use lib.ListN.{length, get_or}
use Rattle.std.specs.Prelude.{Bool, cond, Some, None, Err, is_some, unwrap_or}
use borrow.Author.Tests.{eq-eqb, ne_eqb}
use Rattle.numbers.specs.Slots.{no_days}
use Rattle.numbers.specs.PointNumbers.{number_length}
use Rattle.numbers.specs.Refusals.{first_told}
use Rattle.numbers.proofs.Refusals.{untold, told, passed, both_accepted}
use Rattle.heads.specs.declared.Head.{Head}
use Rattle.heads.proofs.Opening.{opens}
use Rattle.points.specs.Points.{Kind, kind_of, number_of, index_told, with_index}
use Rattle.points.specs.Told.{refusal_told}
use Rattle.refusals.specs.declared.Refusal.{Refusal}
use Rattle.refusals.specs.Told.{number_of as refusal_number, index_of}
use Rattle.refusals.proofs.Refused.{refused as never_zero}
use Rattle.points.proofs.PointKinds.{known_length, values_numbered}
use Rattle.results.specs.SlotResults.{lacks_days, days_told, results}
use Rattle.results.specs.Steps.{found_of}
use Rattle.results.specs.declared.Found.{Found}
use Rattle.ledger.specs.States.{slot_totals, taken}
use Rattle.ledger.specs.Operations.{days_row, adding_refusal, early_tests, early_refusal, add_of, places_of, results_of, days_told_of}
use Rattle.ledger.specs.declared.State.{State}
use Rattle.ledger.proofs.Taking.{Given, given, result_small}
use Rattle.ledger.proofs.Sound.{Sound, sound, sound_is, total_small, add_good, add_bad}

-- ---- the days

-- what is found where there are four days, and that they lack where nothing is
none_lacks : (lacks : Bool) (found : Found) → cond lacks None (Some found) ≡ None → lacks ≡ true
none_lacks true found e = refl
none_lacks false found e = absurd (true≢false (ap is_some e))

some_suffices : (lacks : Bool) (found answer : Found) → Some answer ≡ cond lacks None (Some found) → (lacks ≡ false) × (answer ≡ found)
some_suffices true found answer e = absurd (true≢false (ap is_some e))
some_suffices false found answer e = (refl, ap (λ o. unwrap_or o found) e)

module _ (h : Head) (marks : List ℕ) (kind : Kind) (value : List ℕ) where
  pub days_lack : None ≡ found_of h marks kind value → lacks_days h marks kind value ≡ true
  unfolding found_of
  days_lack e = none_lacks _ _ (sym e)

  pub days_suffice : {answer : Found} → Some answer ≡ found_of h marks kind value
      → (lacks_days h marks kind value ≡ false) × (answer.found ≡ results h marks kind value) × (answer.days ≡ days_told h marks kind value)
  unfolding found_of
  days_suffice e =
      let both = some_suffices _ _ _ e in
      (both.0, ap (λ f. f.found) both.1, ap (λ f. f.days) both.1)

-- ---- the rows

-- what holds where nothing is told before the days
pub record Early (state : State) (tag : ℕ) (value : List ℕ) (places : ℕ) : Type 0 where
  pub sound : Sound state
  pub given : Given state.head state.points (kind_of tag) value places
  -- 18 is told, or the point taken
  pub days : adding_refusal state tag value places ≡ first_told (days_row state.head state.marks tag value)
  -- every point has its number
  pub numbered : number_length ≤ length value
  -- points and sums stay within their types
  pub next : state.points + 1 < 4294967296
  pub sums : (i : ℕ) → nat_abs (get_or (slot_totals state) i (pos 0)) + nat_abs (get_or (results_of state tag value) i (pos 0)) < 2 ^ 63

module _ (state : State) (tag : ℕ) (value : List ℕ) (places : ℕ) where
  early_told : (early_refusal state tag value places ≡ 0 → ⊥) → adding_refusal state tag value places ≡ early_refusal state tag value places
  unfolding adding_refusal early_refusal
  early_told = told (early_tests state tag value places) (days_row state.head state.marks tag value)

  pub early : early_refusal state tag value places ≡ 0 → Early state tag value places
  unfolding adding_refusal early_refusal
  early e =
      let s = sound state (untold (early_tests state tag value places) (values_numbered tag value) e 9) in
      let g = given state.head state.points state.last tag value places (rw (sound_is state s) at e) in
      let o = opens state.head state.marks s.content in
      record {
        sound = s;
        given = g;
        days = passed (early_tests state tag value places) (days_row state.head state.marks tag value) (values_numbered tag value) e;
        numbered = omega (arith, known_length (kind_of tag) g.known);
        next = omega arith;
        sums = λ i. omega (arith, total_small state s i, result_small g state.marks o i);
      }

  -- so it is where an adding is accepted
  pub accepted : adding_refusal state tag value places ≡ 0 → Early state tag value places
  unfolding adding_refusal early_refusal
  accepted e = early (both_accepted (early_tests state tag value places) (days_row state.head state.marks tag value) (values_numbered tag value) e).0

  -- and then the answer has these days
  pub took : {days : List ℕ} → adding_refusal state tag value places ≡ 0 → days ≡ days_told_of state tag value
      → record { refusal = 0; state = taken state (results_of state tag value) (number_of value); days = days; index = 0 } ≡ add_of state tag value places
  took e d = rw (d, add_good state tag value places e)

-- ---- the lent places

module _ (state : State) (tag : ℕ) (value : List ℕ) (places : List ℤ) where
  pub places_good : adding_refusal state tag value (length places) ≡ 0 → places_of state tag value places ≡ results_of state tag value
  unfolding places_of
  places_good e = simp (eq-eqb _ _ e)

  -- a refused adding: the state and the places are as they were, no days are told, and the index of the refusal
  pub refused : {n index : ℕ} → adding_refusal state tag value (length places) ≡ n → (n ≡ 0 → ⊥) → index ≡ index_told n tag value
      → (record { refusal = n; state = state; days = no_days; index = index } ≡ add_of state tag value (length places))
      × (places ≡ places_of state tag value places)
  unfolding places_of
  refused e h i = (rw (add_bad state tag value (length places) (λ z. h (sym e ∙ z)), e, i), simp (ne_eqb _ _ (λ z. h (sym e ∙ z))))

  -- by an early refusal
  pub early_refused : (early : Refusal) → refusal_told {A = Unit {0}} (Err early) ≡ with_index (early_refusal state tag value (length places)) tag value
      → (record { refusal = refusal_number early; state = state; days = no_days; index = index_of early } ≡ add_of state tag value (length places))
      × (places ≡ places_of state tag value places)
  early_refused early e =
      let number = ap (λ r. r.number) e in
      let index = ap (λ r. r.index) e ∙ ap (λ n. index_told n tag value) (sym number) in
      refused (early_told state tag value (length places) (λ z. never_zero early (number ∙ z)) ∙ sym number) (never_zero early) index
