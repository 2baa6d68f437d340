-- Sound states: what opening gives is one, and adding keeps it. Assumes nothing.
use mathlib.Core.Path.{◌≡◌, refl, sym, ◌∙◌}
use mathlib.Core.Bool.{Bool, true, false, cond, not, ◌&&◌, ◌||◌, true≢false}
use mathlib.Core.List.{List, [], ◌∷◌}
use Prim.Native.Nat.{ℕ, ◌+◌, ◌*◌, ◌≤◌}
use native.Mathlib.Decide.{ℕ_discrete}
use native.Mathlib.Omega.{arith}
use lib.Dec.{T, ltb, eqb}
use lib.IntN.{ℤ, pos, nat_abs, ◌+ℤ◌}
use lib.ListN.{get_or}
use mir.Facts.{ltb_no, no_ltb}
use borrow.Author.Tests.{eqb-true, eq-eqb, ne_eqb, ltb-false, le-ltb, not-false}
use Rattle.numbers.specs.Lists.{any}
use Rattle.numbers.specs.Slots.{no_days}
use Rattle.numbers.specs.PointNumbers.{is_number}
use Rattle.heads.specs.Limits.{most_result}
use Rattle.heads.specs.Heads.{head_of, content_refusal, opening_refusal}
use Rattle.points.specs.Points.{number_of, index_told}
use Rattle.ledger.specs.States.{opened, no_state, slot_totals, is_unsound, taken}
use Rattle.figures.specs.Figures.{figures_of, no_figures}
use Rattle.ledger.specs.Operations.{open_of, point_refusal, adding_refusal, results_of, days_told_of, add_of, closing_refusal, close_of, unsound_row}
use Rattle.numbers.specs.Refusals.{first_told}
use Rattle.numbers.proofs.Refusals.{clear}
use Rattle.ledger.specs.declared.State.{State}
use Rattle.ledger.specs.Operations.{Opened}
use Rattle.ledger.specs.Operations.{Added}
use Rattle.ledger.specs.Operations.{Closed}
use Rattle.numbers.proofs.Tests.{none_of, none_cons, no_false}
use Rattle.integers.proofs.Machine.{sum_abs}
use Rattle.heads.proofs.Opening.{opening_content, opens}
use Rattle.figures.specs.SlotTotals.{plus}
use Rattle.results.proofs.Bounds.{is_beyond, none_beyond}
use Rattle.ledger.proofs.Taking.{takes, results_small}

-- ---- the answers of the operations, by the refusal

told : {A : Type 0} (refusal : A → ℕ) (n : ℕ) (good bad : A) → refusal good ≡ 0 → refusal bad ≡ n → refusal (cond (eqb n 0) good bad) ≡ n
told {A} refusal n good bad p q = go (eqb n 0) refl
  where
    go : (t : Bool) → eqb n 0 ≡ t → refusal (cond t good bad) ≡ n
    go true e = p ∙ sym (eqb-true n 0 e)
    go false e = q

module _ (head calendar : List ℕ) where
  pub open_refusal : (open_of head calendar).refusal ≡ opening_refusal head calendar
  unfolding open_of
  open_refusal = told {A = Opened} (λ o. o.refusal) (opening_refusal head calendar) _ _ refl refl

  pub open_good : opening_refusal head calendar ≡ 0 → open_of head calendar ≡ record { refusal = 0; state = opened (head_of head) calendar }
  unfolding open_of
  open_good e = simp (eq-eqb _ _ e)

  pub open_bad : (opening_refusal head calendar ≡ 0 → ⊥) → open_of head calendar ≡ record { refusal = opening_refusal head calendar; state = no_state }
  unfolding open_of
  open_bad n = simp (ne_eqb _ _ n)

module _ (state : State) (tag : ℕ) (value : List ℕ) (places : ℕ) where
  pub add_refusal : (add_of state tag value places).refusal ≡ adding_refusal state tag value places
  unfolding add_of
  add_refusal = told {A = Added} (λ a. a.refusal) (adding_refusal state tag value places) _ _ refl refl

  pub add_good : adding_refusal state tag value places ≡ 0
      → add_of state tag value places
      ≡ record { refusal = 0; state = taken state (results_of state tag value) (number_of value); days = days_told_of state tag value; index = 0 }
  unfolding add_of
  add_good e = simp (eq-eqb _ _ e)

  -- a refused adding leaves the state, and tells no days and the index of its refusal
  pub add_bad : (adding_refusal state tag value places ≡ 0 → ⊥)
      → let refusal = adding_refusal state tag value places in
      add_of state tag value places ≡ record { refusal = refusal; state = state; days = no_days; index = index_told refusal tag value }
  unfolding add_of
  add_bad n = simp (ne_eqb _ _ n)

module _ (state : State) where
  pub close_refusal : (close_of state).refusal ≡ closing_refusal state
  unfolding close_of
  close_refusal = told {A = Closed} (λ c. c.refusal) (closing_refusal state) _ _ refl refl

  pub close_good : closing_refusal state ≡ 0
      → close_of state ≡ record { refusal = 0; figures = figures_of state.head.contract (slot_totals state) state.points }
  unfolding close_of
  close_good e = simp (eq-eqb _ _ e)

  pub close_bad : (closing_refusal state ≡ 0 → ⊥) → close_of state ≡ record { refusal = closing_refusal state; figures = no_figures }
  unfolding close_of
  close_bad n = simp (ne_eqb _ _ n)

-- ---- a sound state, fact by fact

pub record Sound (state : State) : Type 0 where
  pub content : content_refusal state.head state.marks ≡ 0
  pub room : state.points ≤ state.head.count
  pub totals : any (is_beyond (most_result * state.points)) (slot_totals state) ≡ false
  pub last : (ltb 0 state.points && not (is_number state.last)) ≡ false

no_row : (a b c d : Bool) → a || b || c || d ≡ false → (a ≡ false) × (b ≡ false) × (c ≡ false) × (d ≡ false)
no_row true b c d e = absurd (true≢false e)
no_row false true c d e = absurd (true≢false e)
no_row false false true d e = absurd (true≢false e)
no_row false false false d e = (refl, refl, refl, e)

module _ (state : State) where
  pub sound : is_unsound state ≡ false → Sound state
  unfolding is_unsound
  sound e =
      let r = no_row (not (eqb (content_refusal state.head state.marks) 0)) (ltb state.head.count state.points)
      (any (is_beyond (most_result * state.points)) (slot_totals state)) (ltb 0 state.points && not (is_number state.last)) e in
      record { content = eqb-true _ _ (not-false _ r.0); room = ltb-false _ _ r.1; totals = r.2; last = r.3 }

  pub sound_is : Sound state → is_unsound state ≡ false
  unfolding is_unsound
  sound_is s = simp (s.content, le-ltb _ _ s.room, s.totals, s.last)

-- one that 9 does not refuse
pub unsound_passed : (state : State) → 0 ≡ first_told (unsound_row state) → is_unsound state ≡ false
unsound_passed state e = (clear (unsound_row state) tt (sym e)).0

-- its slot totals are far from the ends of their type
pub total_small : (state : State) → Sound state → (i : ℕ) → nat_abs (get_or (slot_totals state) i (pos 0)) ≤ 1000000000000000
total_small state s i =
    let o = opens state.head state.marks s.content in
    omega (arith, none_beyond (most_result * state.points) (slot_totals state) (rw s.totals tt) i)

-- ---- opening gives one, and adding keeps it

module _ (head calendar : List ℕ) (accepted : opening_refusal head calendar ≡ 0) where
  pub opened_sound : Sound (opened (head_of head) calendar)
  unfolding any
  opened_sound = record { content = opening_content head calendar accepted; room = omega arith; totals = refl; last = refl }

-- sums slot by slot grow by no more than their parts
plus_small : (k l : ℕ) (xs ys : List ℤ) → T (none_of (is_beyond k) xs) → T (none_of (is_beyond l) ys) → T (none_of (is_beyond (k + l)) (plus xs ys))
unfolding plus any
plus_small k l [] ys p q = tt
plus_small k l (x ∷ xs) [] p q = tt
plus_small k l (x ∷ xs) (y ∷ ys) p q =
    let f = (none_cons (is_beyond k) x xs).0 p in
    let g = (none_cons (is_beyond l) y ys).0 q in
    let small_x : nat_abs x ≤ k = ltb_no f.0 in
    let small_y : nat_abs y ≤ l = ltb_no g.0 in
    let small : nat_abs (x +ℤ y) ≤ k + l = omega (arith, sum_abs x y) in
    (none_cons (is_beyond (k + l)) (x +ℤ y) (plus xs ys)).1 (no_ltb small, plus_small k l xs ys f.1 g.1)

shown : (some number : Bool) → T number → (some && not number) ≡ false
shown true true t = refl
shown true false t = absurd t
shown false number t = refl

module _ (state : State) (s : Sound state) (tag : ℕ) (value : List ℕ) (places : ℕ) where
  -- the refusals of a sound state are those of the account
  pub adding_sound : adding_refusal state tag value places ≡ point_refusal state.head state.marks state.points state.last tag value places
  unfolding adding_refusal point_refusal
  adding_sound = rw (sound_is state s)

  pub taken_sound : point_refusal state.head state.marks state.points state.last tag value places ≡ 0
      → Sound (taken state (results_of state tag value) (number_of value))
  unfolding taken
  taken_sound e =
      let more : most_result * (state.points + 1) ≡ most_result * state.points + most_result = omega arith in
      let g = takes state.head state.points state.last tag value places state.marks e in
      record {
        content = s.content;
        room = omega arith;
        totals = rw more (no_false _ (plus_small (most_result * state.points) most_result (slot_totals state) (results_of state tag value) (rw s.totals tt)
            (results_small g state.marks (opens state.head state.marks s.content))));
        last = shown (ltb 0 (state.points + 1)) (is_number (number_of value)) g.number;
      }

  -- adding keeps it
  pub add_sound : Sound (add_of state tag value places).state
  add_sound = go (ℕ_discrete (adding_refusal state tag value places) 0)
    where
      go : Dec (adding_refusal state tag value places ≡ 0) → Sound (add_of state tag value places).state
      go (yes e) = rw (add_good state tag value places e) (taken_sound (sym adding_sound ∙ e))
      go (no n) = rw (add_bad state tag value places n) s

pub closing_sound : (state : State) → Sound state → closing_refusal state ≡ cond (ltb state.points state.head.count) 20 0
unfolding closing_refusal
closing_sound state s = rw (sound_is state s)
