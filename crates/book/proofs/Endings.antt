-- How a reading ends, by its next step, over what is left of the book. Assumes nothing.
use mathlib.Core.Path.{◌≡◌, refl, sym, ap, ap₂, subst, ◌∙◌}
use mathlib.Core.List.{List}
use Prim.Native.Nat.{ℕ, suc, ◌-◌, ◌<◌}
use native.Mathlib.Omega.{arith}
use borrow.Author.Tests.{eq-eqb, ne_eqb}
use lib.ListN.{length}
use Rattle.points.specs.Points.{Point}
use Rattle.ledger.specs.Operations.{open_of, add_of}
use Rattle.ledger.specs.declared.State.{State}
use Rattle.ledger.specs.Operations.{Opened}
use Rattle.ledger.specs.Operations.{Added}
use Rattle.fields.specs.Fields.{Value, Refused, field_of, value_in, behind}
use Rattle.book.specs.Reading.{Reading, refused, good, ◌>>=◌, Points, before, read_points, Book, book_of, read_book}
use Rattle.book.specs.Endings.{refused_with, points_ending, book_ending}
use Rattle.book.specs.Settling.{closing_of, result_length, result_bytes, settling_refusal, settling_result}
use Rattle.fields.specs.declared.Due.TheVariants as due
use Rattle.book.proofs.Readings.{Told, book_told}

-- ---- points

before_ending : (p : Point) (r : Reading Points) → points_ending (r >>= λ rest. good (before p rest)) ≡ points_ending r
before_ending p (refused n) = refl
before_ending p (good rest) = refl

module _ (state : State) (left : List ℕ) where
  pub at_end : length left ≡ 0 → points_ending (read_points 0 state left) ≡ record { refusal = 0; state = state }
  unfolding read_points
  at_end e = rw (eq-eqb _ _ e)

  pub past_end : (length left ≡ 0 → ⊥) → points_ending (read_points 0 state left) ≡ refused_with 42
  unfolding read_points
  past_end e = rw (ne_eqb _ _ e)

  module _ (n : ℕ) where
    pub point_not_cut : (k : ℕ) → field_of due.Point left ≡ Refused k → points_ending (read_points (suc n) state left) ≡ refused_with k
    unfolding read_points
    point_not_cut k e = rw e

    module _ (tag size : ℕ) (e : field_of due.Point left ≡ Value tag size) where
      abbrev added : Added
      added = add_of state tag (value_in size left) 6

      pub point_refused : (added.refusal ≡ 0 → ⊥) → points_ending (read_points (suc n) state left) ≡ refused_with added.refusal
      unfolding read_points
      point_refused w = rw (e, ne_eqb _ _ w)

      pub point_taken : added.refusal ≡ 0 → points_ending (read_points (suc n) state left) ≡ points_ending (read_points n added.state (behind size left))
      unfolding read_points
      point_taken w = rw (e, eq-eqb _ _ w) (before_ending (record { tag = tag; value = value_in size left }) (read_points n added.state (behind size left)))

-- ---- as the code goes: n points are due, and one is cut off or not

module _ (n : ℕ) (state : State) (left : List ℕ) where
  pub none_due : n ≡ 0 → length left ≡ 0 → points_ending (read_points n state left) ≡ record { refusal = 0; state = state }
  none_due z e = rw z (at_end state left e)

  pub bytes_after : n ≡ 0 → (length left ≡ 0 → ⊥) → points_ending (read_points n state left) ≡ refused_with 42
  bytes_after z e = rw z (past_end state left e)

  pub not_cut : 0 < n → (k : ℕ) → Refused k ≡ field_of due.Point left → points_ending (read_points n state left) ≡ refused_with k
  not_cut h k e = let less : n ≡ suc (n - 1) = omega arith in rw less (point_not_cut state left (n - 1) k (sym e))

  module _ (h : 0 < n) (tag : ℕ) (value : List ℕ) (e : Value tag (length value) ≡ field_of due.Point left) (v : value ≡ value_in (length value) left) where
    less : n ≡ suc (n - 1)
    less = omega arith

    pub not_added : ((add_of state tag value 6).refusal ≡ 0 → ⊥) → points_ending (read_points n state left) ≡ refused_with (add_of state tag value 6).refusal
    not_added =
        let P : List ℕ → Type 0 = λ y. ((add_of state tag y 6).refusal ≡ 0 → ⊥) → points_ending (read_points n state left) ≡ refused_with (add_of state tag y 6).refusal in
        subst P (sym v) (λ w. rw less (point_refused state left (n - 1) tag (length value) (sym e) w))

    pub was_added : (add_of state tag value 6).refusal ≡ 0
        → points_ending (read_points n state left) ≡ points_ending (read_points (n - 1) (add_of state tag value 6).state (behind (length value) left))
    was_added =
        let P : List ℕ → Type 0 = λ y. (add_of state tag y 6).refusal ≡ 0
        → points_ending (read_points n state left) ≡ points_ending (read_points (n - 1) (add_of state tag y 6).state (behind (length value) left)) in
        subst P (sym v) (λ w. ap (λ (k : ℕ). points_ending (read_points k state left)) less ∙ point_taken state left (n - 1) tag (length value) (sym e) w)

pub ruleset point_steps = (none_due, bytes_after, not_cut, not_added, was_added)

-- ---- the whole book

book_of_ending : (head calendar : List ℕ) (r : Reading Points) → book_ending (r >>= λ rest. good (book_of head calendar rest)) ≡ points_ending r
book_of_ending head calendar (refused n) = refl
book_of_ending head calendar (good rest) = refl

module _ (book : List ℕ) where
  pub no_head_lem : (k : ℕ) → field_of due.Head book ≡ Refused k → book_ending (read_book book) ≡ refused_with k
  unfolding read_book
  no_head_lem k e = rw e

  module _ (tag size : ℕ) (e : field_of due.Head book ≡ Value tag size) where
    pub no_calendar : (k : ℕ) → field_of due.Calendar (behind size book) ≡ Refused k → book_ending (read_book book) ≡ refused_with k
    unfolding read_book
    no_calendar k f = rw (e, f)

    module _ (tag₂ size₂ : ℕ) (f : field_of due.Calendar (behind size book) ≡ Value tag₂ size₂) where
      abbrev opened : Opened
      opened = open_of (value_in size book) (value_in size₂ (behind size book))

      pub not_opened : (opened.refusal ≡ 0 → ⊥) → book_ending (read_book book) ≡ refused_with opened.refusal
      unfolding read_book
      not_opened w = rw (e, f, ne_eqb _ _ w)

      pub was_opened : opened.refusal ≡ 0
          → book_ending (read_book book) ≡ points_ending (read_points opened.state.head.count opened.state (behind size₂ (behind size book)))
      unfolding read_book
      was_opened w =
          rw (e, f, eq-eqb _ _ w)
          (book_of_ending (value_in size book) (value_in size₂ (behind size book)) (read_points opened.state.head.count opened.state (behind size₂ (behind size book))))

-- ---- as the code goes: the head and the calendar are cut off, one behind the other, or not

module _ (book : List ℕ) where
  pub head_not_cut : (k : ℕ) → Refused k ≡ field_of due.Head book → book_ending (read_book book) ≡ refused_with k
  head_not_cut k e = no_head_lem book k (sym e)

  module _ (tag : ℕ) (head : List ℕ) (e : Value tag (length head) ≡ field_of due.Head book) (v : head ≡ value_in (length head) book)
      (left : List ℕ) (b : left ≡ behind (length head) book) where
    pub calendar_not_cut : (k : ℕ) → Refused k ≡ field_of due.Calendar left → book_ending (read_book book) ≡ refused_with k
    calendar_not_cut k f = no_calendar book tag (length head) (sym e) k (ap (field_of due.Calendar) (sym b) ∙ sym f)

    module _ (tag₂ : ℕ) (calendar : List ℕ) (f : Value tag₂ (length calendar) ≡ field_of due.Calendar left) (v₂ : calendar ≡ value_in (length calendar) left) where
      calendar_is : field_of due.Calendar (behind (length head) book) ≡ Value tag₂ (length calendar)
      calendar_is = ap (field_of due.Calendar) (sym b) ∙ sym f

      same : open_of (value_in (length head) book) (value_in (length calendar) (behind (length head) book)) ≡ open_of head calendar
      same = ap₂ open_of (sym v) (ap (value_in (length calendar)) (sym b) ∙ sym v₂)

      pub opening_refused : ((open_of head calendar).refusal ≡ 0 → ⊥) → book_ending (read_book book) ≡ refused_with (open_of head calendar).refusal
      opening_refused w =
          not_opened book tag (length head) (sym e) tag₂ (length calendar) calendar_is (λ z. w (ap (λ o. o.refusal) (sym same) ∙ z))
          ∙ ap (λ o. refused_with o.refusal) same

      pub opening_taken : (open_of head calendar).refusal ≡ 0
          → book_ending (read_book book) ≡ points_ending (read_points (open_of head calendar).state.head.count (open_of head calendar).state (behind (length calendar) left))
      opening_taken w =
          was_opened book tag (length head) (sym e) tag₂ (length calendar) calendar_is (ap (λ o. o.refusal) same ∙ w)
          ∙ ap₂ (λ o rest. points_ending (read_points o.state.head.count o.state rest)) same (ap (behind (length calendar)) (sym b))

pub ruleset book_steps = (head_not_cut, calendar_not_cut, opening_refused, opening_taken)

-- ---- a closing that is accepted is that of a book that is read in full

pub closed_reads : (book : List ℕ) → (closing_of book).refusal ≡ 0 → (r : Book) × (read_book book ≡ good r)
closed_reads book z = go (read_book book) refl (book_told book)
  where
    go : (reading : Reading Book) → read_book book ≡ reading → Told reading → (r : Book) × (read_book book ≡ good r)
    go (refused n) e t = absurd (t (rw (e, ne_eqb n 0 t) at z))
    go (good r) e t = (r, e)

-- ---- the answer of the whole book and the lent bytes, in each case

module _ (book result : List ℕ) where
  abbrev Answer : ℕ → List ℕ → Type 0
  Answer refusal bytes = (refusal ≡ settling_refusal book (length result)) × (bytes ≡ settling_result book result)

  pub no_room : (length result ≡ result_length → ⊥) → Answer 40 result
  unfolding settling_refusal settling_result
  no_room n = let k = ne_eqb _ _ n in (simp k, simp k)

  module _ (room : length result ≡ result_length) where
    pub not_settled : ((closing_of book).refusal ≡ 0 → ⊥) → Answer (closing_of book).refusal result
    unfolding settling_refusal settling_result
    not_settled n = rw room (refl, simp (ne_eqb _ _ n))

    pub all_settled : (closing_of book).refusal ≡ 0 → Answer 0 (result_bytes (closing_of book).figures)
    unfolding settling_refusal settling_result
    all_settled e = rw (room, e) (refl, refl)
