-- After any calls a state holds the points taken, and its slot totals are their results. Assumes nothing.
use mathlib.Core.Path.{◌≡◌, refl, sym, ◌∙◌, ap}
use mathlib.Core.List.{List, [], ◌∷◌}
use Prim.Native.Nat.{ℕ, ◌+◌, ◌<◌}
use native.Mathlib.Decide.{ℕ_discrete}
use native.Mathlib.Omega.{arith}
use lib.IntN.{pos, ◌+ℤ◌, +ℤ_idl, +ℤ_idr, +ℤ_assoc}
use lib.ListN.{length, get_or, get_or-replicate}
use lib.Seq.{ext_get_or}
use borrow.Author.Tests.{ne_eqb}
use Rattle.numbers.specs.Lists.{run}
use Rattle.numbers.proofs.Filling.{run_at, run_length}
use Rattle.integers.specs.Integers.{sum_ℤ}
use Rattle.heads.specs.Heads.{head_of}
use Rattle.points.specs.Points.{Point, kind_of, number_of}
use Rattle.results.proofs.Bounds.{six_results}
use Rattle.figures.proofs.SlotTotals.{plus_at, plus_length}
use Rattle.ledger.specs.States.{opened, no_state, slot_totals, taken}
use Rattle.ledger.specs.Operations.{adding_refusal, results_of}
use Rattle.ledger.specs.declared.State.{State}
use Rattle.ledger.proofs.Sound.{open_refusal, open_good, open_bad, add_good, add_bad}
use Rattle.ledger.proofs.AddSteps.{accepted}
use Rattle.calls.specs.Calls.{Call, adding, closing, replies, state_after, points_taken}
use Rattle.calls.specs.Totals.{slot_total, last_number, Holds, TotalsFromReadings}
use Rattle.calls.proofs.Nine.{nothing_taken}

-- ---- what some points change in a state

record Moved (state after : State) (points : List Point) : Type 0 where
  head : after.head ≡ state.head
  calendar : after.marks ≡ state.marks
  count : after.points ≡ state.points + length points
  last : after.last ≡ last_number state.last points
  six : length (slot_totals after) ≡ 6
  totals : (j : ℕ) → j < 6
      → get_or (slot_totals after) j (pos 0) ≡ get_or (slot_totals state) j (pos 0) +ℤ slot_total state.head state.marks points j

module _ (state : State) (six : length (slot_totals state) ≡ 6) where
  moved_none : Moved state state []
  unfolding sum_ℤ
  moved_none =
      record { head = refl; calendar = refl; count = omega arith; last = refl; six = six; totals = λ j h. sym (+ℤ_idr (get_or (slot_totals state) j (pos 0))) }

  -- a point that is taken: slot by slot, its results are added
  module _ (p : Point) (found : length (results_of state p.tag p.value) ≡ 6) where
    abbrev next : State
    next = taken state (results_of state p.tag p.value) (number_of p.value)

    next_six : length (slot_totals next) ≡ 6
    unfolding taken
    next_six = plus_length (slot_totals state) (results_of state p.tag p.value) (six ∙ sym found) ∙ six

    moved_one : (after : State) (points : List Point) → Moved next after points → Moved state after (p ∷ points)
    unfolding taken sum_ℤ
    moved_one after points m = record {
      head = m.head;
      calendar = m.calendar;
      count = omega (arith, m.count);
      last = m.last;
      six = m.six;
      totals = λ j h.
          let r = results_of state p.tag p.value in
          let others = slot_total state.head state.marks points j in
          m.totals j h ∙ ap (◌+ℤ others) (plus_at (slot_totals state) r j (omega arith) (omega arith))
          ∙ +ℤ_assoc (get_or (slot_totals state) j (pos 0)) (get_or r j (pos 0)) others;
    }

-- ---- call by call

abbrev Moves : State → List Call → Type 0
Moves state calls = length (slot_totals state) ≡ 6 → Moved state (state_after state calls) (points_taken calls (replies state calls))

moved : (calls : List Call) (state : State) → Moves state calls
unfolding replies state_after points_taken
moved [] state six = moved_none state six
moved (adding tag value places ∷ calls) state six = go (ℕ_discrete (adding_refusal state tag value places) 0) (moved calls) six
  where
    go : Dec (adding_refusal state tag value places ≡ 0) → ((state : State) → Moves state calls) → Moves state (adding tag value places ∷ calls)
    go (yes e) rest six =
        let p : Point = record { tag = tag; value = value } in
        let found = six_results state.head state.marks (kind_of tag) value (accepted state tag value places e).given.known in
        rw (add_good state tag value places e) (moved_one state six p found _ _ (rest _ (next_six state six p found)))
    go (no n) rest six = rw (add_bad state tag value places n, ne_eqb _ 0 n) (rest state six)
moved (closing ∷ calls) state six = moved calls state six

-- ---- from an opening

holds : (head calendar : List ℕ) (after : State) (points : List Point)
    → Moved (opened (head_of head) calendar) after points → Holds (head_of head) calendar points after
holds head calendar after points m =
    let f = slot_total (head_of head) calendar points in
    record {
      same_head = m.head;
      same_calendar = m.calendar;
      counted = omega (arith, m.count);
      last = m.last;
      totals = ext_get_or (pos 0) (slot_totals after) (run f 0 6) (m.six ∙ sym (run_length f 0 6)) λ j h.
          let k : j < 6 = omega (arith, m.six) in
          m.totals j k ∙ rw (get_or-replicate 6 j (pos 0) (pos 0) k) (+ℤ_idl (f j)) ∙ sym (run_at f 6 j (pos 0) k);
    }

-- a refused one
shut : (calls : List Call) → (state_after no_state calls ≡ no_state) × (points_taken calls (replies no_state calls) ≡ [])
unfolding replies state_after points_taken
shut [] = (refl, refl)
shut (adding tag value places ∷ calls) =
    let r = nothing_taken tag value places in
    rw (add_bad no_state tag value places (λ z. omega arith), r) (shut calls)
shut (closing ∷ calls) = shut calls

pub totals_from_readings : TotalsFromReadings
totals_from_readings head calendar calls = record {
  opened = λ e.
      let is = open_good head calendar (sym (open_refusal head calendar) ∙ e) in
      rw is (holds head calendar _ _ (moved calls (opened (head_of head) calendar) refl));
  refused = λ n. rw (open_bad head calendar (λ z. n (open_refusal head calendar ∙ z))) (shut calls);
}
