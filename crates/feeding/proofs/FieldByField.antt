-- A book that is fed field by field ends as the whole book does, and only the due bytes are looked at. Assumes nothing.
use mathlib.Core.Path.{◌≡◌, refl, sym, ap, ◌∙◌}
use mathlib.Core.Bool.{Bool, true, false}
use mathlib.Core.List.{List, [], ◌∷◌}
use Prim.Native.Nat.{ℕ, zero, suc, ◌+◌, ◌*◌, ◌<◌, ◌≤◌}
use native.Mathlib.Decide.{ℕ_discrete}
use native.Mathlib.Omega.{arith}
use borrow.Author.Tests.{ltb-true, ltb-false, lt-ltb, le-ltb, eq-eqb, ne_eqb}
use lib.Dec.{ltb}
use lib.ListN.{length, take, drop, length-take, length-drop}
use lib.Seq.{drop-drop, take-take}
use Rattle.points.specs.Points.{number_of}
use Rattle.heads.specs.Heads.{head_of, opening_refusal}
use Rattle.ledger.specs.States.{no_state, opened, taken}
use Rattle.ledger.specs.Operations.{open_of, add_of, results_of}
use Rattle.ledger.specs.declared.State.{State}
use Rattle.heads.proofs.Opening.{opening_content, opens}
use Rattle.ledger.proofs.Sound.{open_refusal, open_good, add_refusal, add_good}
use Rattle.fields.specs.Fields.{tag_at, length_due, field_of, value_in, behind, header_refusal}
use Rattle.fields.specs.Fields as field
use Rattle.book.specs.Reading.{read_points, read_book}
use Rattle.book.specs.Endings.{refused_with, points_ending, book_ending}
use Rattle.fields.specs.declared.Due.{Due}
use Rattle.fields.specs.declared.Due.TheVariants.{Head, Calendar, Point}
use Rattle.book.specs.Endings.{Ending}
use Rattle.fields.proofs.Headers.{header_shows}
use Rattle.fields.proofs.Answers.{Answer, no_header, no_value, whole, answer}
use Rattle.book.proofs.Endings.{at_end, past_end, point_not_cut, point_refused, point_taken, no_head_lem, no_calendar, not_opened, was_opened}
use Rattle.feeding.specs.Feeding.{due_of, start_of, refused_at, waiting, header_fed, at_points, going, got, value_fed, end_fed, fed_at, feed_of, fed, ending_fed, FieldByField, DueOnly}
use Rattle.feeding.proofs.Values.{value_cut, value_whole}
use Rattle.feeding.specs.declared.Wait.{Wait}
use Rattle.feeding.specs.declared.Wait.TheVariants.{Header, Value, End, Nothing}
use Rattle.feeding.specs.Feeding.{Progress}

-- ---- a reading that has ended

abbrev Done : Progress → Ending → Type 0
Done p ending = (p.wait ≡ Nothing) × (ending_fed p ≡ ending)

abbrev over : List ℕ → State → ℕ → Progress
over head state refusal = record { wait = Nothing; head = head; state = state; refusal = refusal }

-- nothing changes any more
stays : (n : ℕ) (head : List ℕ) (state : State) (refusal : ℕ) (left : List ℕ)
    → Done (fed n (over head state refusal) left) (record { refusal = refusal; state = state })
unfolding fed
stays zero head state refusal left = (refl, refl)
stays (suc n) head state refusal left = stays n head state refusal left

-- ---- a field in two feedings

pub fed_one : (n : ℕ) (p : Progress) (left : List ℕ) → fed (suc n) p left ≡ fed n (feed_of p left) (drop (due_of p.wait) left)
unfolding fed
fed_one n p left = refl

-- a value is fed alike, whatever was waited for
value_same : (due : Due) (tag : ℕ) (wait : Wait) (p : Progress) (bytes : List ℕ) → value_fed due tag (waiting wait p) bytes ≡ value_fed due tag p bytes
unfolding value_fed
value_same Head tag wait p bytes = refl
value_same Calendar tag wait p bytes = refl
value_same Point tag wait p bytes = refl

module _ (due : Due) (p : Progress) (n : ℕ) (left : List ℕ) where
  abbrev tag : ℕ
  tag = tag_at left

  abbrev size : ℕ
  size = length_due due tag

  header_no : (header_refusal due left ≡ 0 → ⊥) → header_fed due (waiting (Header due) p) left ≡ refused_at (header_refusal due left) p
  unfolding header_fed
  header_no e = simp (ne_eqb _ _ e)

  header_yes : header_refusal due left ≡ 0 → header_fed due (waiting (Header due) p) left ≡ waiting (Value due tag) p
  unfolding header_fed
  header_yes e = simp (eq-eqb _ _ e)

  pub header_refuses : (header_refusal due left ≡ 0 → ⊥)
      → Done (fed (suc (suc n)) (waiting (Header due) p) left) (refused_with (header_refusal due left))
  header_refuses e = rw (fed_one (suc n) (waiting (Header due) p) left, header_no e) (stays (suc n) p.head no_state (header_refusal due left) (drop 3 left))

  module _ (e : header_refusal due left ≡ 0) where
    second : fed (suc (suc n)) (waiting (Header due) p) left ≡ fed n (value_fed due tag p (drop 3 left)) (behind size left)
    second =
        fed_one (suc n) (waiting (Header due) p) left ∙ ap (λ q. fed (suc n) q (drop 3 left)) (header_yes e)
        ∙ fed_one n (waiting (Value due tag) p) (drop 3 left)
        ∙ ap (λ q. fed n q (drop size (drop 3 left))) (value_same due tag (Value due tag) p (drop 3 left))
        ∙ ap (fed n (value_fed due tag p (drop 3 left))) (drop-drop size 3 left)

    pub value_lacks : length left < 3 + size → Done (fed (suc (suc n)) (waiting (Header due) p) left) (refused_with 31)
    value_lacks h =
        let k = (header_shows due left e).long in
        rw (second, value_cut due tag p (drop 3 left) (omega (arith, length-drop 3 left))) (stays n p.head no_state 31 (behind size left))

    pub value_taken : 3 + size ≤ length left → fed (suc (suc n)) (waiting (Header due) p) left ≡ fed n (got due tag p (value_in size left)) (behind size left)
    value_taken h = second ∙ ap (λ q. fed n q (behind size left)) (value_whole due tag p (drop 3 left) (omega (arith, length-drop 3 left)))

-- ---- the points

module _ (state : State) (p : Progress) where
  point_due : state.points < state.head.count → at_points state p ≡ waiting (Header Point) (at_points state p)
  point_due h = rw (lt-ltb _ _ h)

  end_due : state.head.count ≤ state.points → at_points state p ≡ waiting End (at_points state p)
  end_due h = rw (le-ltb _ _ h)

  end_yes : (bytes : List ℕ) → length bytes ≡ 0 → end_fed (waiting End (at_points state p)) bytes ≡ over p.head state 0
  unfolding end_fed
  end_yes bytes e = simp (eq-eqb _ _ e)

  end_no : (bytes : List ℕ) → (length bytes ≡ 0 → ⊥) → end_fed (waiting End (at_points state p)) bytes ≡ over p.head no_state 42
  unfolding end_fed
  end_no bytes e = simp (ne_eqb _ _ e)

-- an accepted point leaves the head and raises the points by one
module _ (state : State) (tag : ℕ) (value : List ℕ) (e : (add_of state tag value 6).refusal ≡ 0) where
  added_state : (add_of state tag value 6).state ≡ taken state (results_of state tag value) (number_of value)
  added_state = ap (λ a. a.state) (add_good state tag value 6 (sym (add_refusal state tag value 6) ∙ e))

  one_less : (k : ℕ) → state.points + suc k ≡ state.head.count
      → (add_of state tag value 6).state.points + k ≡ (add_of state tag value 6).state.head.count
  unfolding taken
  one_less k h = rw added_state (omega arith)

-- what opening or adding answers
going_no : (refusal : ℕ) (state : State) (p : Progress) → (refusal ≡ 0 → ⊥) → going refusal state p ≡ over p.head no_state refusal
going_no refusal state p e = rw (ne_eqb _ _ e)

going_yes : (refusal : ℕ) (state : State) (p : Progress) → refusal ≡ 0 → going refusal state p ≡ at_points state p
going_yes refusal state p e = rw e

points_fed : (k n : ℕ) (state : State) (p : Progress) (left : List ℕ) → 2 * k + 1 ≤ n → state.points + k ≡ state.head.count
    → Done (fed n (at_points state p) left) (points_ending (read_points k state left))
points_fed zero zero state p left h c = absurd (omega arith)
points_fed zero (suc n) state p left h c = rw (end_due state p (omega arith)) (go (ℕ_discrete (length left) 0))
  where
    go : Dec (length left ≡ 0) → Done (fed (suc n) (waiting End (at_points state p)) left) (points_ending (read_points 0 state left))
    go (yes e) = rw (at_end state left e, fed_one n (waiting End (at_points state p)) left, end_yes state p left e) (stays n p.head state 0 (drop 1 left))
    go (no e) = rw (past_end state left e, fed_one n (waiting End (at_points state p)) left, end_no state p left e) (stays n p.head no_state 42 (drop 1 left))
points_fed (suc k) zero state p left h c = absurd (omega arith)
points_fed (suc k) (suc zero) state p left h c = absurd (omega arith)
points_fed (suc k) (suc (suc n)) state p left h c = rw (point_due state p (omega arith)) (go (answer Point left) λ s q l. points_fed k n s q l (omega arith))
  where
    Next : Type 0
    Next = (s : State) (q : Progress) (l : List ℕ) → s.points + k ≡ s.head.count → Done (fed n (at_points s q) l) (points_ending (read_points k s l))

    size : ℕ
    size = length_due Point (tag_at left)

    value : List ℕ
    value = value_in size left

    took : Next → field_of Point left ≡ field.Value (tag_at left) size → Dec ((add_of state (tag_at left) value 6).refusal ≡ 0)
        → Done (fed n (got Point (tag_at left) (at_points state p) value) (behind size left)) (points_ending (read_points (suc k) state left))
    took next f (yes e) =
        let after = add_of state (tag_at left) value 6 in
        rw (point_taken state left k (tag_at left) size f e, going_yes after.refusal after.state (at_points state p) e)
        (next after.state (at_points state p) (behind size left) (one_less state (tag_at left) value e k c))
    took next f (no e) =
        let after = add_of state (tag_at left) value 6 in
        rw (point_refused state left k (tag_at left) size f e, going_no after.refusal after.state (at_points state p) e)
        (stays n p.head no_state after.refusal (behind size left))

    go : Answer Point left → Next → Done (fed (suc (suc n)) (waiting (Header Point) (at_points state p)) left) (points_ending (read_points (suc k) state left))
    go (no_header e f) next = rw (point_not_cut state left k (header_refusal Point left) f) (header_refuses Point (at_points state p) n left e)
    go (no_value e m f) next = rw (point_not_cut state left k 31 f) (value_lacks Point (at_points state p) n left e m)
    go (whole e m f) next =
        rw (value_taken Point (at_points state p) n left e m) (took next f (ℕ_discrete (add_of state (tag_at left) value 6).refusal 0))

-- ---- the whole book

-- an accepted opening gives a state with no points and a count that is not too large
module _ (head calendar : List ℕ) (e : (open_of head calendar).refusal ≡ 0) where
  accepted : opening_refusal head calendar ≡ 0
  accepted = sym (open_refusal head calendar) ∙ e

  opened_state : (open_of head calendar).state ≡ opened (head_of head) calendar
  opened_state = ap (λ a. a.state) (open_good head calendar accepted)

  count_small : (head_of head).count ≤ 10_000
  count_small = (opens (head_of head) calendar (opening_content head calendar accepted)).most_points_lem

pub field_by_field : FieldByField
field_by_field book zero h = absurd (omega arith)
field_by_field book (suc zero) h = absurd (omega arith)
field_by_field book (suc (suc zero)) h = absurd (omega arith)
field_by_field book (suc (suc (suc zero))) h = absurd (omega arith)
field_by_field book (suc (suc (suc (suc n)))) h = first (answer Head book)
  where
    size : ℕ
    size = length_due Head (tag_at book)

    head : List ℕ
    head = value_in size book

    left : List ℕ
    left = behind size book

    calendar : List ℕ
    calendar = value_in (length_due Calendar (tag_at left)) left

    points : List ℕ
    points = behind (length_due Calendar (tag_at left)) left

    kept : Progress
    kept = got Head (tag_at book) start_of head

    third : field_of Head book ≡ field.Value (tag_at book) size → field_of Calendar left ≡ field.Value (tag_at left) (length_due Calendar (tag_at left))
        → Dec ((open_of head calendar).refusal ≡ 0)
        → Done (fed n (got Calendar (tag_at left) kept calendar) points) (book_ending (read_book book))
    third f g (yes e) =
        let state = (open_of head calendar).state in
        rw (was_opened book (tag_at book) size f (tag_at left) (length_due Calendar (tag_at left)) g e, going_yes (open_of head calendar).refusal state kept e)
        (points_fed state.head.count n state kept points (rw (opened_state head calendar e) (omega (arith, count_small head calendar e))) (rw (opened_state head calendar e) (omega arith)))
    third f g (no e) =
        rw (not_opened book (tag_at book) size f (tag_at left) (length_due Calendar (tag_at left)) g e, going_no (open_of head calendar).refusal (open_of head calendar).state kept e)
        (stays n head no_state (open_of head calendar).refusal points)

    next : field_of Head book ≡ field.Value (tag_at book) size → Answer Calendar left
        → Done (fed (suc (suc n)) (waiting (Header Calendar) kept) left) (book_ending (read_book book))
    next f (no_header e g) = rw (no_calendar book (tag_at book) size f (header_refusal Calendar left) g) (header_refuses Calendar kept n left e)
    next f (no_value e m g) = rw (no_calendar book (tag_at book) size f 31 g) (value_lacks Calendar kept n left e m)
    next f (whole e m g) = rw (value_taken Calendar kept n left e m) (third f g (ℕ_discrete (open_of head calendar).refusal 0))

    first : Answer Head book → Done (fed (suc (suc (suc (suc n)))) start_of book) (book_ending (read_book book))
    first (no_header e f) = rw (no_head_lem book (header_refusal Head book) f) (header_refuses Head start_of (suc (suc n)) book e)
    first (no_value e m f) = rw (no_head_lem book 31 f) (value_lacks Head start_of (suc (suc n)) book e m)
    first (whole e m f) = rw (value_taken Head start_of (suc (suc n)) book e m) (next f (answer Calendar left))

-- ---- only the due bytes are looked at

header_due : (due : Due) (left : List ℕ) → header_refusal due (take 3 left) ≡ header_refusal due left
unfolding header_refusal
header_due due [] = refl
header_due due (a ∷ []) = refl
header_due due (a ∷ b ∷ []) = refl
header_due due (a ∷ b ∷ c ∷ left) = simp (ne_eqb (suc (suc (suc (length left)))) 0 (omega arith), le-ltb (suc (suc (suc (length left)))) 3 (omega arith))

tag_due : (left : List ℕ) → tag_at (take 3 left) ≡ tag_at left
tag_due [] = refl
tag_due (a ∷ left) = refl

length_due_lem : (n : ℕ) (left : List ℕ) → ltb (length (take n left)) n ≡ ltb (length left) n
length_due_lem n left = go (ltb (length left) n) refl
  where
    go : (t : Bool) → ltb (length left) n ≡ t → ltb (length (take n left)) n ≡ t
    go true i = lt-ltb (length (take n left)) n (omega (arith, length-take n left, ltb-true (length left) n i))
    go false i = le-ltb (length (take n left)) n (omega (arith, length-take n left, ltb-false (length left) n i))

end_due_only : (p : Progress) (left : List ℕ) → end_fed p (take 1 left) ≡ end_fed p left
unfolding end_fed
end_due_only p [] = refl
end_due_only p (a ∷ left) = simp (ne_eqb (suc (length left)) 0 (omega arith))

fed_due : (wait : Wait) (p : Progress) (left : List ℕ) → fed_at wait p (take (due_of wait) left) ≡ fed_at wait p left
unfolding header_fed value_fed
fed_due (Header due) p left = rw (header_due due left, tag_due left)
fed_due (Value due tag) p left = rw (length_due_lem (length_due due tag) left, take-take (length_due due tag) (length_due due tag) left (omega arith))
fed_due End p left = end_due_only p left
fed_due Nothing p left = refl

pub due_only : DueOnly
due_only p left = fed_due p.wait p left
