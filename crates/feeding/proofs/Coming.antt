-- Fewer bytes than are due end the reading, so that what comes part by part is one book. Assumes nothing.
use mathlib.Core.Path.{◌≡◌, refl, sym, ap, ◌∙◌}
use mathlib.Core.Bool.{true, false, true≢false}
use mathlib.Core.List.{List, [], ◌++◌, append_assoc}
use Prim.Native.Nat.{ℕ, zero, suc, ◌-◌, ◌<◌, ◌≤◌}
use native.Mathlib.Decide.{ℕ_discrete}
use native.Mathlib.Omega.{arith}
use borrow.Author.Tests.{eq-eqb, ne_eqb}
use lib.ListN.{length, drop}
use lib.Seq.{take_at, drop_at}
use Rattle.fields.specs.Fields.{header_refusal}
use Rattle.fields.proofs.Headers.{header_shows}
use Rattle.feeding.specs.Feeding.{due_of, is_over, start_of, header_fed, end_fed, fed_at, feed_of, fed, ending_fed, most_feedings, FewerEnd}
use Rattle.feeding.specs.Coming.{Coming, FedWhole, EndsWhole}
use Rattle.feeding.specs.declared.Wait.{Wait}
use Rattle.feeding.specs.declared.Wait.TheVariants.{Header, Value, End, Nothing}
use Rattle.feeding.specs.Feeding.{Progress}
use Rattle.feeding.proofs.Values.{value_cut}
use Rattle.feeding.proofs.FieldByField.{fed_one, due_only}

-- ---- fewer than are due

fewer : (wait : Wait) (p : Progress) (bytes : List ℕ) → length bytes < due_of wait → (fed_at wait p bytes).wait ≡ Nothing
unfolding header_fed end_fed
fewer (Header due) p bytes h = simp (ne_eqb (header_refusal due bytes) 0 λ e. omega (arith, (header_shows due bytes e).long))
fewer (Value due tag) p bytes h = rw (value_cut due tag p bytes h)
fewer End p bytes h = let none : length bytes ≡ 0 = omega arith in simp (eq-eqb _ _ none)
fewer Nothing p bytes h = absurd (omega arith)

pub fewer_end : FewerEnd
fewer_end p bytes h = fewer p.wait p bytes h

-- ---- part by part

-- once nothing more is waited for, nothing changes
over_stays : (n : ℕ) (p : Progress) (left : List ℕ) → p.wait ≡ Nothing → fed n p left ≡ p
unfolding fed
over_stays zero p left e = refl
over_stays (suc n) p left e =
    let same : feed_of p left ≡ p = ap (λ wait. fed_at wait p left) e in
    ap (λ q. fed n q (drop (due_of p.wait) left)) same ∙ over_stays n p (drop (due_of p.wait) left) e

pub comes_first : Coming most_feedings start_of
comes_first = record { book = []; ends = λ left. refl }

pub comes_last : {turns : ℕ} {p : Progress} → Coming turns p → turns ≤ 0 → FedWhole p
unfolding fed
comes_last {turns} {p} c h =
    let none : turns ≡ 0 = omega arith in
    record { book = c.book ++ []; is = c.ends [] ∙ ap (λ (n : ℕ). fed n p []) none }

-- whether the reading is over, as the code tells it
is_nothing : (wait : Wait) → is_over wait ≡ true → wait ≡ Nothing
is_nothing (Header due) e = absurd (true≢false (sym e))
is_nothing (Value due tag) e = absurd (true≢false (sym e))
is_nothing End e = absurd (true≢false (sym e))
is_nothing Nothing e = refl

-- the bytes that come next, at most as many as are due
module _ {turns : ℕ} {p after : Progress} (bytes : List ℕ) (c : Coming turns p) (some : 0 < turns) (is : after ≡ feed_of p bytes) where
  one : (left : List ℕ) → fed most_feedings start_of (c.book ++ left) ≡ fed (turns - 1) (feed_of p left) (drop (due_of p.wait) left)
  one left = let e : turns ≡ suc (turns - 1) = omega arith in c.ends left ∙ ap (λ (n : ℕ). fed n p left) e ∙ fed_one (turns - 1) p left

  pub comes_over : is_over after.wait ≡ true → FedWhole after
  comes_over over = rw is
      (record { book = c.book ++ bytes; is = one bytes ∙ over_stays (turns - 1) (feed_of p bytes) (drop (due_of p.wait) bytes) (is_nothing _ (rw is at over)) })

  module _ (h : length bytes ≤ due_of p.wait) (on : is_over after.wait ≡ false) where
    all_due : length bytes ≡ due_of p.wait
    all_due = go (ℕ_discrete (length bytes) (due_of p.wait))
      where
        go : Dec (length bytes ≡ due_of p.wait) → length bytes ≡ due_of p.wait
        go (yes e) = e
        go (no n) = absurd (true≢false (rw (is, fewer_end p bytes (omega arith)) at on))

    pub comes_more : Coming (turns - 1) after
    comes_more = rw is (record {
      book = c.book ++ bytes;
      ends = λ left.
          ap (fed most_feedings start_of) (append_assoc c.book bytes left)
          ∙ one (bytes ++ left)
          ∙ ap (fed (turns - 1) (feed_of p (bytes ++ left))) (drop_at bytes left (due_of p.wait) all_due)
          ∙ ap (λ q. fed (turns - 1) q left) (sym (due_only p (bytes ++ left)) ∙ ap (feed_of p) (take_at bytes left (due_of p.wait) all_due));
    })

-- how it ended
pub ends_whole : {p : Progress} → FedWhole p → EndsWhole (ending_fed p)
ends_whole {p} whole = record { progress = p; fed_whole = whole; is = refl }
