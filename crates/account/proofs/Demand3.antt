-- DEMAND 3 holds, for every sequence of calls. Assumes nothing.
use mathlib.Core.Path.{◌≡◌, refl, sym, ◌∙◌, ap}
use mathlib.Core.Bool.{Bool, true, false, cond, ◌&&◌, ◌||◌}
use mathlib.Core.List.{List, [], ◌∷◌, ◌++◌, map, append-nil}
use Prim.Native.Nat.{ℕ, ◌*◌}
use native.Mathlib.Decide.{ℕ_discrete}
use native.Mathlib.Omega.{arith}
use lib.Dec.{T, ltb}
use lib.IntN.{ℤ, pos, ◌+ℤ◌}
use lib.Signed.{le_z}
use lib.ListN.{length, length-append}
use borrow.Author.Tests.{ne_eqb}
use Rattle.numbers.specs.Lists.{any, gather}
use Rattle.integers.specs.Integers.{divides, sum_ℤ}
use Rattle.heads.specs.Heads.{head_of, opening_refusal}
use Rattle.points.specs.Points.{Point, kind_of, number_of}
use Rattle.results.specs.SlotResults.{Quotient, quotients}
use Rattle.ledger.specs.States.{opened, no_state, slot_totals, taken}
use Rattle.figures.specs.Figures.{settled_of, figures_of}
use Rattle.ledger.specs.Operations.{point_refusal, adding_refusal, results_of, closing_refusal, close_of}
use Rattle.account.specs.Account.{Account, parts_of_kilowatt, parts_of_watt, parts_of_wh, exactly, exact_sum, exact_shortfall, opening, Said, said, says_of, all_refused, account}
use Rattle.account.specs.Demand3.{taken_before, taken_all, all_quotients, rounded_total, no_remainder, no_loss, keeps_fractions, Accurate, Agree, both_refuse, both_accept, both_close, AgreeAll, end, next, Demand3}
use Rattle.heads.specs.declared.Head.{Head}
use Rattle.ledger.specs.declared.State.{State}
use Rattle.figures.specs.declared.Figures.{Figures}
use Rattle.numbers.proofs.Tests.{every, none_append, gather_append}
use Rattle.account.proofs.Sums.{sum_append, sum_plus}
use Rattle.figures.proofs.SlotTotals.{plus_length}
use Rattle.account.proofs.Rounding.{whole, compared}
use Rattle.heads.proofs.Opening.{opens}
use Rattle.results.proofs.Bounds.{six_by, six_results}
use Rattle.ledger.proofs.Taking.{takes}
use Rattle.account.proofs.Divisors.{goes_by, wh_pos, wholes}
use Rattle.ledger.proofs.Sound.{Sound, open_good, open_bad, opened_sound, add_good, add_bad, adding_sound, taken_sound, close_good, close_bad, closing_sound}
use Rattle.calls.proofs.Nine.{nothing_taken, nothing_closed}
use Rattle.calls.specs.Calls.{Call, adding, closing, closed, reply_of, replies, program}

-- ---- what holds between the state, the account and the points taken, after any calls

-- the account beside a state
abbrev account_of : State → ℤ → Account
account_of state sum = record { head = state.head; marks = state.marks; points = state.points; last = state.last; sum = sum }

record Along (state : State) (sum : ℤ) (ps : List Point) : Type 0 where
  sound : Sound state
  count : state.points ≡ length ps
  six : length (slot_totals state) ≡ 6
  total : sum_ℤ (slot_totals state) ≡ rounded_total state.head state.marks ps
  exact : sum ≡ sum_ℤ (map (exactly state.head) (all_quotients state.head state.marks ps))
  sixes : length (all_quotients state.head state.marks ps) ≡ 6 * length ps
  kept : T (keeps_fractions state.head state.marks ps)

module _ (h : Head) (marks : List ℕ) where
  one_more : (ps : List Point) (p : Point) → all_quotients h marks (ps ++ p ∷ []) ≡ all_quotients h marks ps ++ quotients h marks (kind_of p.tag) p.value
  unfolding gather
  one_more ps p = gather_append _ ps (p ∷ []) ∙ ap (all_quotients h marks ps ++◌) (append-nil _)

  -- a division that is not listed leaves no remainder
  no_loss_lem : (ps : List Point) (figures : Figures) → no_loss h marks ps figures
      ≡ (le_z (pos h.contract) figures.settled || every whole (all_quotients h marks ps) && divides 3_000 (rounded_total h marks ps))
  unfolding no_remainder
  no_loss_lem ps figures = ap (λ wholly. le_z (pos h.contract) figures.settled || wholly && divides 3_000 (rounded_total h marks ps)) (wholes h marks ps)

parts : (h : Head) → (3_000 * parts_of_wh h ≡ parts_of_kilowatt h) × (3 * parts_of_wh h ≡ parts_of_watt h)
parts h = (omega arith, omega arith)

module _ (state : State) (sum : ℤ) (ps : List Point) (a : Along state sum ps) where
  abbrev quotients_so_far : List Quotient
  quotients_so_far = all_quotients state.head state.marks ps

  -- ---- an accepted adding

  along_taken : (tag : ℕ) (value : List ℕ) (places : ℕ) → point_refusal state.head state.marks state.points state.last tag value places ≡ 0
      → Along (taken state (results_of state tag value) (number_of value)) (sum +ℤ exact_sum state.head state.marks tag value)
      (ps ++ record { tag = tag; value = value } ∷ [])
  unfolding taken keeps_fractions
  along_taken tag value places e =
      let more = one_more state.head state.marks ps (record { tag = tag; value = value }) in
      let g = takes state.head state.points state.last tag value places state.marks e in
      let results_six = six_results state.head state.marks (kind_of tag) value g.known in
      let quotients_six = six_by state.head state.marks (kind_of tag) value g.known in
      record {
        sound = taken_sound state a.sound tag value places e;
        count = simp length-append (omega arith);
        six = plus_length (slot_totals state) _ (a.six ∙ sym results_six) ∙ a.six;
        total = sum_plus (slot_totals state) _ (a.six ∙ sym results_six) ∙ rw (a.total, more, sum_append);
        exact = rw (a.exact, more, sum_append);
        sixes = rw more (simp length-append (omega arith));
        kept = rw more ((none_append _ quotients_so_far _).1 (a.kept, goes_by state.head state.marks (kind_of tag) value g.fit));
      }

  -- ---- a closing

  accurate : Accurate state.head state.marks ps (figures_of state.head.contract (slot_totals state) state.points) (exact_shortfall (account_of state sum))
  unfolding figures_of keeps_fractions
  accurate =
      let h = state.head in
      let c = compared (parts_of_wh h) (parts_of_kilowatt h) (parts_of_watt h) (length ps) h.contract (wh_pos h (opens h state.marks a.sound.content))
      (parts h).0 (parts h).1 quotients_so_far a.kept a.sixes in
      record {
        counted = a.count;
        total = a.total;
        settled = ap settled_of a.total;
        unrounded = a.kept;
        equal = rw (no_loss_lem, a.total, a.exact) c.equal;
        otherwise = rw (no_loss_lem, a.total, a.exact) λ t. let b = c.otherwise t in omega arith;
      }

  close_at : Agree state.head state.marks ps (reply_of (close_of state).refusal (closed (close_of state).figures)) (said (account_of state sum) closing)
  close_at = go (ltb state.points state.head.count) (closing_sound state a.sound)
    where
      go : (t : Bool) → closing_refusal state ≡ cond t 20 0
          → Agree state.head state.marks ps (reply_of (close_of state).refusal (closed (close_of state).figures))
          (cond t Said.refused (Said.closed (exact_shortfall (account_of state sum))))
      go true r = rw (close_bad state (λ z. omega arith), r) both_refuse
      go false r = rw (close_good state r) (both_close accurate)

-- ---- call by call

abbrev Agrees : List Call → State → ℤ → List Point → Type 0
Agrees calls state sum ps =
    AgreeAll state.head state.marks (taken_before (account_of state sum) ps calls) (replies state calls) (says_of (account_of state sum) calls)

agree : (calls : List Call) (state : State) (sum : ℤ) (ps : List Point) → Along state sum ps → Agrees calls state sum ps
unfolding taken_before replies says_of taken
agree [] state sum ps a = end
agree (adding tag value places ∷ calls) state sum ps a =
    go (ℕ_discrete (point_refusal state.head state.marks state.points state.last tag value places) 0) (agree calls)
  where
    refusal_is : adding_refusal state tag value places ≡ point_refusal state.head state.marks state.points state.last tag value places
    refusal_is = adding_sound state a.sound tag value places

    go : Dec (point_refusal state.head state.marks state.points state.last tag value places ≡ 0)
        → ((state : State) (sum : ℤ) (ps : List Point) → Along state sum ps → Agrees calls state sum ps)
        → Agrees (adding tag value places ∷ calls) state sum ps
    go (yes z) rest = rw (add_good state tag value places (refusal_is ∙ z), z) (next both_accept (rest _ _ _ (along_taken state sum ps a tag value places z)))
    go (no n) rest = rw (add_bad state tag value places (λ z. n (sym refusal_is ∙ z)), refusal_is, ne_eqb _ 0 n, append-nil ps)
        (next both_refuse (rest state sum ps a))
agree (closing ∷ calls) state sum ps a = rw (append-nil ps) (next (close_at state sum ps a) (agree calls state sum ps a))

-- ---- a refused opening

shut : (h : Head) (marks : List ℕ) (calls : List Call) → AgreeAll h marks (map (λ call. []) calls) (replies no_state calls) (all_refused calls)
unfolding replies all_refused
shut h marks [] = end
shut h marks (adding tag value places ∷ calls) =
    let r = nothing_taken tag value places in
    rw (add_bad no_state tag value places (λ z. omega arith), r) (next both_refuse (shut h marks calls))
shut h marks (closing ∷ calls) =
    let r = nothing_closed in
    rw (close_bad no_state (λ z. omega arith), r) (next both_refuse (shut h marks calls))

-- ---- an accepted one

along_opened : (head calendar : List ℕ) → opening_refusal head calendar ≡ 0 → Along (opened (head_of head) calendar) (pos 0) []
unfolding sum_ℤ gather any keeps_fractions
along_opened head calendar e =
    record { sound = opened_sound head calendar e; count = refl; six = refl; total = refl; exact = refl; sixes = refl; kept = tt }

pub demand3 : Demand3
unfolding program account opening
demand3 head calendar calls = go (ℕ_discrete (opening_refusal head calendar) 0)
  where
    go : Dec (opening_refusal head calendar ≡ 0)
        → AgreeAll (head_of head) calendar (taken_all (opening head calendar) calls) (program head calendar calls) (account head calendar calls)
    go (yes e) = rw (open_good head calendar e, e) (next both_accept (agree calls (opened (head_of head) calendar) (pos 0) [] (along_opened head calendar e)))
    go (no n) = rw (open_bad head calendar n, ne_eqb _ 0 n) (next both_refuse (shut (head_of head) calendar calls))
