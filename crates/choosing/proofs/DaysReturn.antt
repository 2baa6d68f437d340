-- The days that return are those that are said. Assumes nothing.
use mathlib.Core.Path.{◌≡◌, refl, sym, ap, ◌∙◌}
use mathlib.Core.Bool.{Bool, true, false, not, true≢false}
use mathlib.Core.List.{List}
use mathlib.Core.Logic.{⊎_elim}
use Prim.Native.Nat.{ℕ, ◌-◌, ◌<◌}
use native.Mathlib.Omega.{arith}
use lib.Dec.{eqb}
use lib.ListN.{length}
use Rattle.numbers.specs.Lists.{run, filter, any}
use Rattle.numbers.specs.Slots.{days_back, days_used}
use Rattle.choosing.specs.Choosing.{standing, dropped, with_returned, used, chosen}
use Rattle.choosing.specs.Days.{Rising}
use Rattle.choosing.specs.Returning.{Among, GivenBack, DaysReturn, StandingAreUsed}
use Rattle.choosing.proofs.SomeOf.{some_same, In, in_some, in_any, any_in, not_any}
use Rattle.choosing.proofs.Rising.{some_rising, rising_order}
use Rattle.choosing.proofs.Flags.{tested_rising}
use Rattle.choosing.proofs.Returning.{returned_stays, returned_of, returned_first}
use Rattle.choosing.proofs.WithReturned.{none_returned, not_standing, in_dropped, dropped_rising, returned_count}
use Rattle.choosing.proofs.Lowest.{used_fewer, chosen_few, chosen_count}

pub standing_are_used : StandingAreUsed
unfolding chosen
standing_are_used w eligible h = ap (used w) (none_returned w eligible h)

module _ (w : ℕ → ℕ) {near far : ℕ} (days : List ℕ) (rising : Rising near far days) (few : length (standing w days) < days_used) where
  abbrev lack : ℕ
  lack = days_used - length (standing w days)

  as_returned : chosen w days ≡ with_returned w days
  unfolding chosen
  as_returned = used_fewer w (with_returned w days) (λ e. let count = returned_count w days rising few in grind (arith, count.0, count.1, e))

  in_returned : {k : ℕ} → Among (chosen w days) k → In k (with_returned w days)
  in_returned {k = k} p = any_in k (with_returned w days) (rw as_returned at p)

  not_in : {k : ℕ} {some : List ℕ} → (Among some k → ⊥) → In k some → ⊥
  not_in n p = n (in_any p)

  out : {j : ℕ} → (Among (chosen w days) j → ⊥) → In j (with_returned w days) → ⊥
  out n p = n (rw as_returned (in_any p))

  -- each eligible day stands, or was dropped
  either : (k : ℕ) → In k days → any (eqb k) (dropped w days) ≡ not (any (eqb k) (standing w days))
  either k p = go (any (eqb k) (standing w days)) refl
    where
      go : (t : Bool) → any (eqb k) (standing w days) ≡ t → any (eqb k) (dropped w days) ≡ not t
      go true e = not_any k (dropped w days) (λ q. not_standing w days rising few k q (any_in k (standing w days) e))
      go false e = in_any (in_dropped w days rising few p (λ q. true≢false (sym (in_any q) ∙ e)))

  eligible_in : (k : ℕ) → Among (chosen w days) k → Among days k
  eligible_in k p = in_any (in_some (chosen_few w rising).1 (any_in k (chosen w days) p))

  days_given_back : GivenBack w days (standing w days) (dropped w days) (chosen w days)
  days_given_back = record {
    either = λ k p. either k (any_in k days p);
    four = (chosen_count w days rising).0;
    all = λ h. some_same (chosen_few w rising).1 (omega (arith, (chosen_count w days rising).1));
    rise = λ i j h l. rising_order i j h l (some_rising (chosen_few w rising).1 rising);
    eligible_alone = eligible_in;
    stay = λ k p. rw as_returned (in_any (returned_stays w lack (dropped w days) (standing w days) (any_in k _ p)));
    dropped_alone = λ k p n. ⊎_elim (λ q. absurd (not_in n q)) in_any (returned_of w lack (dropped w days) (standing w days) (in_returned p));
    first = λ k j p n q m. returned_first w lack (dropped w days) (standing w days) (dropped_rising w days rising few) (in_returned p) (not_in n)
        (in_dropped w days rising few (any_in j days q) (λ s. out m (returned_stays w lack (dropped w days) (standing w days) s))) (out m);
  }

pub days_return : DaysReturn
days_return w test few = days_given_back w (filter test (run (λ k. k) 1 days_back)) (tested_rising test days_back) few
