-- Reading, step by step: what a book that is read in full went through, and that a refusal is never 0. Assumes nothing.
use mathlib.Core.Path.{◌≡◌, refl}
use mathlib.Core.Bool.{Bool, true, false, cond}
use mathlib.Core.List.{List, []}
use Prim.Native.Nat.{ℕ, zero, suc}
use native.Mathlib.Omega.{arith}
use borrow.Author.Tests.{eqb-true, eqb-false}
use lib.Dec.{eqb}
use lib.ListN.{length}
use Rattle.ledger.specs.Operations.{open_of, add_of}
use Rattle.ledger.specs.declared.State.{State}
use Rattle.book.specs.Reading.{Reading, refused, good, ◌>>=◌, unless, Part, field, open_test, add_point, Points, before, read_points, Book, book_of, read_book}
use Rattle.fields.specs.declared.Due.{Due}
use Rattle.fields.specs.declared.Due.TheVariants.{Head, Calendar, Point}
use Rattle.fields.proofs.Answers.{Answer, no_header, no_value, whole, answer}

-- ---- one step

bind_good : {A B C : Type 0} (m : Reading A) (k : A → Reading B) (b : B) → (m >>= k) ≡ good b → ((a : A) → m ≡ good a → k a ≡ good b → C) → C
bind_good (refused n) k b e f = let z : ◌≡◌ {A = ℕ} 0 1 = cc in absurd (omega arith)
bind_good (good a) k b e f = f a refl e

unless_good : {A : Type 0} (n : ℕ) (a x : A) → unless n a ≡ good x → (n ≡ 0) × (x ≡ a)
unless_good {A} n a x e = go (eqb n 0) refl e
  where
    go : (t : Bool) → eqb n 0 ≡ t → cond t (good a) (refused n) ≡ good x → (n ≡ 0) × (x ≡ a)
    go true p e = (eqb-true n 0 p, cc)
    go false p e = let z : ◌≡◌ {A = ℕ} 0 1 = cc in absurd (omega arith)

-- ---- the steps that follow each step

abbrev with_point : Part → Points → Reading Points
with_point part rest = good (before part.point rest)

abbrev from_state : ℕ → Part → State → Reading Points
from_state n part next = read_points n next part.left >>= with_point part

abbrev from_point : ℕ → State → Part → Reading Points
from_point n state part = add_point state part.point >>= from_state n part

abbrev with_points : Part → Part → Points → Reading Book
with_points head calendar rest = good (book_of head.point.value calendar.point.value rest)

abbrev from_opening : Part → Part → State → Reading Book
from_opening head calendar state = read_points state.head.count state calendar.left >>= with_points head calendar

abbrev from_calendar : Part → Part → Reading Book
from_calendar head calendar = open_test head.point.value calendar.point.value >>= from_opening head calendar

abbrev from_head : Part → Reading Book
from_head head = field Calendar head.left >>= from_calendar head

-- ---- points that are read

-- n points from a state on, out of what is left
pub data Points-read : ℕ → State → List ℕ → Points → Type 0 where
  none : {state : State} {left : List ℕ} → length left ≡ 0 → Points-read zero state left (record { points = []; state = state })
  more : {n : ℕ} {state : State} {left : List ℕ} {part : Part} {rest : Points}
      → field Point left ≡ good part
      → (add_of state part.point.tag part.point.value 6).refusal ≡ 0
      → Points-read n (add_of state part.point.tag part.point.value 6).state part.left rest
      → Points-read (suc n) state left (before part.point rest)

pub points_read_lem : (n : ℕ) (state : State) (left : List ℕ) (x : Points) → read_points n state left ≡ good x → Points-read n state left x
unfolding read_points
points_read_lem zero state left x e = go (eqb (length left) 0) refl e
  where
    go : (t : Bool) → eqb (length left) 0 ≡ t → cond t (good (record { points = []; state = state })) (refused 42) ≡ good x → Points-read zero state left x
    go true p e = let is : x ≡ record { points = []; state = state } = cc in rw is (none (eqb-true (length left) 0 p))
    go false p e = let z : ◌≡◌ {A = ℕ} 0 1 = cc in absurd (omega arith)
points_read_lem (suc n) state left x e =
    bind_good (field Point left) (from_point n state) x e λ part e₁ f₁.
    bind_good (add_point state part.point) (from_state n part) x f₁ λ next e₂ f₂.
    bind_good (read_points n next part.left) (with_point part) x f₂ λ rest e₃ f₃.
    let added = add_of state part.point.tag part.point.value 6 in
    let a = unless_good added.refusal added.state next e₂ in
    let is : x ≡ before part.point rest = cc in
    rw is (more {part = part} e₁ a.0 (points_read_lem n added.state part.left rest (rw a.1 at e₃)))

-- ---- a book that is read

pub record Book-read (book : List ℕ) (r : Book) : Type 0 where
  pub head : Part
  pub calendar : Part
  pub points : Points
  pub head_cut : field Head book ≡ good head
  pub calendar_cut : field Calendar head.left ≡ good calendar
  pub opens : (open_of head.point.value calendar.point.value).refusal ≡ 0
  pub points_read : let state = (open_of head.point.value calendar.point.value).state in Points-read state.head.count state calendar.left points
  pub is : r ≡ book_of head.point.value calendar.point.value points

pub book_read : (book : List ℕ) (r : Book) → read_book book ≡ good r → Book-read book r
unfolding read_book
book_read book r e =
    bind_good (field Head book) from_head r e λ head e₁ f₁.
    bind_good (field Calendar head.left) (from_calendar head) r f₁ λ calendar e₂ f₂.
    bind_good (open_test head.point.value calendar.point.value) (from_opening head calendar) r f₂ λ state e₃ f₃.
    bind_good (read_points state.head.count state calendar.left) (with_points head calendar) r f₃ λ rest e₄ f₄.
    let opened = open_of head.point.value calendar.point.value in
    let a = unless_good opened.refusal opened.state state e₃ in
    record {
      head = head;
      calendar = calendar;
      points = rest;
      head_cut = e₁;
      calendar_cut = e₂;
      opens = a.0;
      points_read = points_read_lem opened.state.head.count opened.state calendar.left rest (rw a.1 at e₄);
      is = cc;
    }

-- ---- a refusal is never 0

abbrev pub Told : {A : Type 0} → Reading A → Type 0
Told (refused n) = n ≡ 0 → ⊥
Told (good a) = Unit {0}

bind_told : {A B : Type 0} (m : Reading A) (k : A → Reading B) → Told m → ((a : A) → Told (k a)) → Told (m >>= k)
bind_told (refused n) k t f = t
bind_told (good a) k t f = f a

unless_told : {A : Type 0} (n : ℕ) (a : A) → Told (unless n a)
unless_told {A} n a = go (eqb n 0) refl
  where
    go : (t : Bool) → eqb n 0 ≡ t → Told (cond t (good a) (refused n))
    go true p = tt
    go false p = eqb-false n 0 p

field_told : (due : Due) (left : List ℕ) → Told (field due left)
field_told due left = go (answer due left)
  where
    go : Answer due left → Told (field due left)
    go (no_header n e) = rw e n
    go (no_value n h e) = rw e (omega arith)
    go (whole n h e) = rw e tt

points_told : (n : ℕ) (state : State) (left : List ℕ) → Told (read_points n state left)
unfolding read_points
points_told zero state left = go (eqb (length left) 0)
  where
    go : (t : Bool) → Told {A = Points} (cond t (good (record { points = []; state = state })) (refused 42))
    go true = tt
    go false = omega arith
points_told (suc n) state left =
    bind_told (field Point left) (from_point n state) (field_told Point left) λ part.
    let added = add_of state part.point.tag part.point.value 6 in
    bind_told (add_point state part.point) (from_state n part) (unless_told added.refusal added.state) λ next.
    bind_told (read_points n next part.left) (with_point part) (points_told n next part.left) λ rest. tt

pub book_told : (book : List ℕ) → Told (read_book book)
unfolding read_book
book_told book =
    bind_told (field Head book) from_head (field_told Head book) λ head.
    bind_told (field Calendar head.left) (from_calendar head) (field_told Calendar head.left) λ calendar.
    let opened = open_of head.point.value calendar.point.value in
    bind_told (open_test head.point.value calendar.point.value) (from_opening head calendar) (unless_told opened.refusal opened.state) λ state.
    bind_told (read_points state.head.count state calendar.left) (with_points head calendar) (points_told state.head.count state calendar.left) λ rest. tt
