-- No operation tells 17. Assumes nothing.
use mathlib.Core.Path.{◌≡◌, refl, sym, ◌∙◌}
use mathlib.Core.Bool.{Bool, true, false, cond, true≢false}
use mathlib.Core.List.{List}
use Prim.Native.Nat.{ℕ, zero, suc}
use native.Mathlib.Omega.{arith}
use borrow.Author.Tests.{eq-eqb}
use lib.Dec.{eqb}
use lib.ListN.{length}
use Rattle.numbers.specs.Lists.{any}
use Rattle.numbers.specs.Refusals.{first_told}
use Rattle.numbers.specs.Slots.{window_slots}
use Rattle.numbers.proofs.NeverTold.{Without, never}
use Rattle.heads.specs.Heads.{opening_tests, opening_refusal}
use Rattle.ledger.specs.Operations.{open_of, closing_tests, closing_refusal, close_of}
use Rattle.ledger.specs.declared.State.{State}
use Rattle.ledger.specs.Operations.{Closed}
use Rattle.ledger.proofs.Sound.{open_refusal, close_refusal}
use Rattle.calls.proofs.TooLarge.{adding_not_seventeen}
use Rattle.fields.specs.Fields.{tag_at, length_due, field_tests, field_refusal, Value, Refused, field_of}
use Rattle.fields.specs.declared.Due.{Due}
use Rattle.fields.specs.declared.Due.TheVariants as due
use Rattle.writing.specs.Writing.{head_writing_tests, head_writing_refusal}
use Rattle.writing.proofs.TooLarge.{writing_not_seventeen}
use Rattle.book.specs.Reading.{Reading, refused, good, ◌>>=◌, unless, Part, handed_on, field, open_test, add_point, Points, Book, read_points, read_book}
use Rattle.book.specs.Endings.{book_ending, closed_after}
use Rattle.book.specs.Settling.{result_length, closing_of, settling_refusal}
use Rattle.book.specs.Endings.{Ending}
use Rattle.round_trips.specs.Seventeen.{NoSeventeen}

not_told : (rows : List (Bool × ℕ)) → Without (λ n. eqb n 17) rows → first_told rows ≡ 17 → ⊥
not_told rows t e = true≢false (sym (eq-eqb _ _ e) ∙ never (λ n. eqb n 17) rows refl t)

open_not : (head calendar : List ℕ) → (open_of head calendar).refusal ≡ 17 → ⊥
unfolding opening_refusal any
open_not head calendar e = not_told (opening_tests head calendar) tt (sym (open_refusal head calendar) ∙ e)

close_not : (state : State) → (close_of state).refusal ≡ 17 → ⊥
unfolding closing_refusal any
close_not state e = not_told (closing_tests state) tt (sym (close_refusal state) ∙ e)

-- ---- a reading of a book that is not refused with 17

abbrev Not : {A : Type 0} → Reading A → Type 0
Not (refused n) = n ≡ 17 → ⊥
Not (good a) = Unit {0}

then_not : {A B : Type 0} (first : Reading A) (rest : A → Reading B) → Not first → ((a : A) → Not (rest a)) → Not (first >>= rest)
then_not (refused n) rest p q = p
then_not (good a) rest p q = q a

unless_not : {A : Type 0} (n : ℕ) (a : A) → (n ≡ 17 → ⊥) → Not (unless n a)
unless_not n a p = go (eqb n 0)
  where
    go : (b : Bool) → Not (cond b (good a) (refused n))
    go true = tt
    go false = p

field_tests_not : (kind : Due) (left : List ℕ) → field_refusal kind left ≡ 17 → ⊥
unfolding field_refusal any
field_tests_not due.Head left e = not_told (field_tests due.Head left) tt e
field_tests_not due.Calendar left e = not_told (field_tests due.Calendar left) tt e
field_tests_not due.Point left e = not_told (field_tests due.Point left) tt e

field_not : (kind : Due) (left : List ℕ) → Not (handed_on left (field_of kind left))
unfolding field_of
field_not kind left = go (eqb (field_refusal kind left) 0)
  where
    go : (b : Bool) → Not (handed_on left (cond b (Value (tag_at left) (length_due kind (tag_at left))) (Refused (field_refusal kind left))))
    go true = tt
    go false = field_tests_not kind left

points_not : (n : ℕ) (state : State) (left : List ℕ) → Not (read_points n state left)
unfolding read_points
points_not zero state left = go (eqb (length left) 0) _
  where
    go : (b : Bool) (points : Points) → Not (cond b (good points) (refused 42))
    go true points = tt
    go false points = λ e. omega arith
points_not (suc n) state left =
    then_not (field due.Point left) _ (field_not due.Point left) λ (part : Part).
    then_not (add_point state part.point) _ (unless_not _ _ (adding_not_seventeen state part.point.tag part.point.value window_slots)) λ (next : State).
    then_not (read_points n next part.left) _ (points_not n next part.left) λ (rest : Points). tt

book_not : (book : List ℕ) → Not (read_book book)
unfolding read_book
book_not book =
    then_not (field due.Head book) _ (field_not due.Head book) λ (head : Part).
    then_not (field due.Calendar head.left) _ (field_not due.Calendar head.left) λ (calendar : Part).
    let both = open_test head.point.value calendar.point.value in
    then_not both _ (unless_not _ _ (open_not head.point.value calendar.point.value)) λ (state : State).
    then_not (read_points state.head.count state calendar.left) _ (points_not state.head.count state calendar.left) λ (rest : Points). tt

ending_not : (ending : Ending) → (ending.refusal ≡ 17 → ⊥) → (closed_after ending).refusal ≡ 17 → ⊥
ending_not ending p = go (eqb ending.refusal 0) _ p
  where
    go : (b : Bool) (bad : Closed) → (bad.refusal ≡ 17 → ⊥) → (cond b (close_of ending.state) bad).refusal ≡ 17 → ⊥
    go true bad p = close_not ending.state
    go false bad p = p

after_not : (book : Reading Book) → Not book → (closed_after (book_ending book)).refusal ≡ 17 → ⊥
after_not (refused n) p = ending_not (book_ending (refused n)) p
after_not (good book) p = close_not book.state

settling_not : (book : List ℕ) (room : ℕ) → settling_refusal book room ≡ 17 → ⊥
unfolding settling_refusal
settling_not book room = go (eqb room result_length)
  where
    go : (b : Bool) → cond b (closing_of book).refusal 40 ≡ 17 → ⊥
    go true = after_not (read_book book) (book_not book)
    go false = λ e. omega arith

head_not : (head calendar : List ℕ) (room : ℕ) → head_writing_refusal head calendar room ≡ 17 → ⊥
unfolding head_writing_refusal any
head_not head calendar room = not_told (head_writing_tests head calendar room) tt

pub no_seventeen : NoSeventeen
no_seventeen = record {
  opening = open_not;
  adding = adding_not_seventeen;
  closing = close_not;
  writing_head = head_not;
  writing_point = writing_not_seventeen;
  whole_book = settling_not;
}
