-- After an accepted opening 9 never comes, and after a refused one nothing else does. Assumes nothing.
use mathlib.Core.Path.{◌≡◌, refl, sym, ◌∙◌}
use mathlib.Core.Bool.{Bool, true, false, cond, not}
use mathlib.Core.List.{List, [], ◌∷◌}
use Prim.Native.Nat.{ℕ}
use native.Mathlib.Omega.{arith}
use lib.Dec.{T, eqb}
use Rattle.numbers.specs.Lists.{any}
use Rattle.numbers.specs.Refusals.{first_told}
use Rattle.numbers.proofs.Tests.{none_of, none_cons, none_append}
use Rattle.numbers.proofs.NeverTold.{Without, never}
use Rattle.calendar.specs.Dates.{is_date}
use Rattle.heads.specs.Heads.{head_of, content_refusal}
use Rattle.points.specs.Points.{value_rows}
use Rattle.points.proofs.PointKinds.{values_above}
use Rattle.ledger.specs.States.{opened, no_state, is_unsound}
use Rattle.ledger.specs.Operations.{days_row, point_tests, point_refusal, adding_refusal, add_of, unreached_row, closing_refusal, close_of}
use Rattle.ledger.specs.declared.State.{State}
use Rattle.ledger.proofs.Sound.{open_refusal, open_good, add_refusal, close_refusal, Sound, opened_sound, adding_sound, add_sound, closing_sound}
use Rattle.calls.specs.Calls.{Call, adding, closing, Reply, refused, accepted, closed, reply_of, replies, program, tells_nine, NeverNine}

-- ---- the state of zeros, which a refused opening gives, is not sound

nothing_unsound : is_unsound no_state ≡ true
unfolding is_unsound content_refusal is_date
nothing_unsound = refl

pub nothing_taken : (tag : ℕ) (value : List ℕ) (places : ℕ) → adding_refusal no_state tag value places ≡ 9
unfolding adding_refusal
nothing_taken tag value places = rw nothing_unsound

pub nothing_closed : closing_refusal no_state ≡ 9
unfolding closing_refusal
nothing_closed = rw nothing_unsound

-- ---- of a sound state 9 is not told

not_nine_in : (rows : List (Bool × ℕ)) → Without (λ n. eqb n 9) rows → T (not (eqb (first_told rows) 9))
not_nine_in rows t = rw (never (λ n. eqb n 9) rows refl t) tt

module _ (state : State) (s : Sound state) where
  add_not_nine : (tag : ℕ) (value : List ℕ) (places : ℕ) → T (not (eqb (add_of state tag value places).refusal 9))
  unfolding point_refusal any
  add_not_nine tag value places =
      rw (add_refusal, adding_sound state s tag value places)
      (not_nine_in (point_tests state.head state.marks state.points state.last tag value places)
      ((none_append (λ row. eqb row.1 9) (value_rows tag value) (days_row state.head state.marks tag value)).1
      (values_above tag value 9 (omega arith), tt)))

  close_not_nine : T (not (eqb (close_of state).refusal 9))
  unfolding any
  close_not_nine = rw (close_refusal, closing_sound state s) (not_nine_in (unreached_row state.head state.points) tt)

-- ---- call by call

next : (n : ℕ) (reply : Reply) (more : List Reply) → T (not (eqb n 9)) → T (not (tells_nine reply)) → T (none_of tells_nine more)
    → T (none_of tells_nine (reply_of n reply ∷ more))
next n reply more p q t = (none_cons tells_nine (reply_of n reply) more).1 (go (eqb n 0), t)
  where
    go : (b : Bool) → T (not (tells_nine (cond b reply (refused n))))
    go true = q
    go false = p

not_nine : (calls : List Call) (state : State) → Sound state → T (none_of tells_nine (replies state calls))
unfolding replies any
not_nine [] state s = tt
not_nine (adding tag value places ∷ calls) state s =
    let added = add_of state tag value places in
    next added.refusal accepted (replies added.state calls) (add_not_nine state s tag value places) tt
    (not_nine calls added.state (add_sound state s tag value places))
not_nine (closing ∷ calls) state s =
    next (close_of state).refusal (closed (close_of state).figures) (replies state calls) (close_not_nine state s) tt (not_nine calls state s)

pub never_nine : NeverNine
unfolding program
never_nine head calendar e calls =
    let z = sym (open_refusal head calendar) ∙ e in
    rw (open_good head calendar z)
    (next 0 accepted (replies (opened (head_of head) calendar) calls) tt tt (not_nine calls _ (opened_sound head calendar z)))
