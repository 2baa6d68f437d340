-- DEMAND 2, its second half: both round trips. Assumes nothing.
use mathlib.Core.Path.{◌≡◌, refl, sym, ap, subst, ◌∙◌}
use mathlib.Core.Bool.{Bool, true, false, not, ◌&&◌}
use mathlib.Core.List.{List, [], ◌∷◌, ◌++◌, map, append_assoc}
use Prim.Native.Nat.{ℕ, zero, suc, ◌+◌, ◌<◌}
use native.Mathlib.Nat.{zero-add}
use native.Mathlib.Numerals.{add-one}
use native.Mathlib.Omega.{arith}
use borrow.Author.Tests.{eqb-true, not-false, lt-leb, lt-ltb, le-ltb}
use lib.Dec.{T, ltb}
use lib.ListN.{length, get_or, drop}
use mir.Facts.{and_yes, yes_and}
use Rattle.numbers.specs.Words.{Bytes}
use Rattle.numbers.specs.Lists.{gather}
use Rattle.numbers.specs.PointNumbers.{below}
use Rattle.numbers.specs.Refusals.{first_told}
use Rattle.numbers.proofs.Refusals.{numbered, test_of, untold, clear_zero, passed, both_accepted}
use Rattle.numbers.proofs.Tests.{no_false}
use Rattle.heads.specs.Heads.{head_of, opening_tests, opening_refusal}
use Rattle.points.specs.Points.{Point, kind_of, number_of, form_rows, number_row, value_rows}
use Rattle.points.proofs.PointKinds.{values_numbered}
use Rattle.results.specs.SlotResults.{lacks_days}
use Rattle.ledger.specs.States.{opened, taken}
use Rattle.ledger.specs.Operations.{unsound_row, reached_row, not_above_row, places_row, days_row, before_value, point_refusal, adding_refusal, results_of, add_of}
use Rattle.heads.specs.declared.Head.{Head}
use Rattle.ledger.specs.declared.State.{State}
use Rattle.heads.proofs.Opening.{opening_lengths}
use Rattle.ledger.proofs.Sound.{open_refusal, open_good, add_refusal, add_good, Sound, opened_sound, adding_sound, taken_sound}
use Rattle.fields.specs.Fields.{written}
use Rattle.book.specs.Reading.{good, Points, before, read_points, Book, book_of, read_book}
use Rattle.book.specs.Settling.{result_length, settling_refusal}
use Rattle.writing.specs.Writing.{room_row, head_writing_refusal, value_writing_tests, point_writing_tests, point_writing_refusal}
use Rattle.round_trips.specs.Demand2.{rises_after, rises, head_room, room_for, Each, ReadsBack, ReadInFull, WrittenGivesZero, ReadsWritable, WritesSame, written_book}
use Rattle.fields.specs.declared.Due.TheVariants as due
use Rattle.round_trips.proofs.Cutting.{reads_field, was_written}
use Rattle.book.proofs.Readings.{Points-read, none, more, book_read}
use Rattle.book.proofs.Closings.{closes}
use Rattle.round_trips.proofs.Figures.{gives_figures}

-- ---- rising numbers, from a number of points and the last number on

abbrev follows : ℕ → List ℕ → List Point → Bool
follows zero last points = rises points
follows (suc n) last points = rises_after last points

abbrev not_above : ℕ → List ℕ → Point → Bool
not_above n last p = ltb 0 n && not (below last (number_of p.value))

is_true : (b : Bool) → T b → b ≡ true
is_true true t = refl
is_true false t = absurd t

follows_above : (n : ℕ) (last : List ℕ) (p : Point) (points : List Point) → T (follows n last (p ∷ points)) → not_above n last p ≡ false
follows_above zero last p points t = refl
follows_above (suc n) last p points t =
    let above = is_true (below last (number_of p.value)) (and_yes (below last (number_of p.value)) (rises_after (number_of p.value) points) t).0 in
    simp (lt-ltb 0 (suc n) (omega arith), above)

follows_next : (n : ℕ) (last : List ℕ) (p : Point) (points : List Point) → T (follows n last (p ∷ points)) → T (follows (n + 1) (number_of p.value) points)
follows_next zero last p points t = t
follows_next (suc n) last p points t = rw add-one (and_yes (below last (number_of p.value)) (rises_after (number_of p.value) points) t).1

follows_more : (n : ℕ) (last : List ℕ) (p : Point) (points : List Point) → not_above n last p ≡ false → T (follows (n + 1) (number_of p.value) points)
    → T (follows n last (p ∷ points))
follows_more zero last p points e t = t
follows_more (suc n) last p points e t =
    let above : below last (number_of p.value) ≡ true = not-false _ (simp (lt-ltb 0 (suc n) (omega arith)) at e) in
    yes_and (below last (number_of p.value)) (rises_after (number_of p.value) points) (rw above tt) (rw add-one at t)

follows_none : (n : ℕ) (last : List ℕ) → T (follows n last [])
follows_none zero last = tt
follows_none (suc n) last = tt

-- ---- points

abbrev pub Takes : Point → Type 0
Takes p = point_writing_refusal p.tag p.value (room_for p) ≡ 0

abbrev ShowsDays : Head → List ℕ → Point → Type 0
ShowsDays head marks p = T (not (lacks_days head marks (kind_of p.tag) p.value))

abbrev pub written_points : List Point → List ℕ
written_points points = gather (λ p. written p.tag p.value) points

writing_untold : (p : Point) → Takes p → (n : ℕ) → test_of n (point_writing_tests p.tag p.value (room_for p)) ≡ false
unfolding point_writing_refusal
writing_untold p e = untold (point_writing_tests p.tag p.value (room_for p)) (values_numbered p.tag p.value) e

-- rows that stand in a table, each found there by its number, tell 0 where the table tells none of its numbers
among : (rows table : List (Bool × ℕ)) → map (λ row. row.0) rows ≡ map (λ row. test_of row.1 table) rows
    → ((n : ℕ) → test_of n table ≡ false) → first_told rows ≡ 0
among [] table same c = refl
among (row ∷ rows) table same c =
    let here = ap (λ (tests : List Bool). get_or tests 0 false) same ∙ c row.1 in
    rw here (among rows table (ap (drop 1) same) c)

-- The groups of rows that adding and writing share are passed one after the other: the number of an unfit value goes by its kind, so that
-- no row behind it is found by its number.
module _ (p : Point) where
  abbrev form_and_number : List (Bool × ℕ)
  form_and_number = form_rows p.tag (length p.value) ++ number_row (number_of p.value)

  abbrev values : List (Bool × ℕ)
  values = value_rows p.tag p.value

  numbered_here : T (numbered values)
  numbered_here = values_numbered p.tag p.value

abbrev days : Head → List ℕ → Point → List (Bool × ℕ)
days h marks p = days_row h marks p.tag p.value

-- a point that is written is taken, where it follows and shows its days
module _ (h : Head) (marks last : List ℕ) (n : ℕ) (p : Point) where
  point_back : Takes p → ShowsDays h marks p → n < h.count → not_above n last p ≡ false → point_refusal h marks n last p.tag p.value 6 ≡ 0
  unfolding point_refusal point_writing_refusal
  point_back takes shows room above =
      let beside = reached_row h n ++ places_row 6 ++ not_above_row n last (number_of p.value) in
      let clear = clear_zero beside (lt-leb _ _ room, (refl, (above, tt))) in
      let writing = (both_accepted (value_writing_tests p.tag p.value) (room_row (room_for p) (room_for p)) (numbered_here p) takes).0 in
      let written = both_accepted (form_and_number p) (values p) tt writing in
      let table = beside ++ form_and_number p in
      let first = before_value h n last p.tag p.value 6 in
      let first_passed = among first table refl (untold table tt (passed beside (form_and_number p) tt clear ∙ written.0)) in
      passed first (values p ++ days h marks p) tt first_passed
      ∙ passed (values p) (days h marks p) (numbered_here p) written.1
      ∙ clear_zero (days h marks p) (no_false _ shows, tt)

points_back : (points : List Point) (state : State) → Sound state → state.points + length points ≡ state.head.count
    → T (follows state.points state.last points) → Each Takes points → Each (ShowsDays state.head state.marks) points
    → (x : Points) × (read_points (length points) state (written_points points) ≡ good x) × (x.points ≡ points)
unfolding read_points gather taken
points_back [] state s n f t d = (record { points = []; state = state }, refl, refl)
points_back (p ∷ points) state s n f t d =
    let above = follows_above state.points state.last p points f in
    let e = point_back state.head state.marks state.last state.points p t.0 d.0 (omega arith) above in
    let c = writing_untold p t.0 in
    let next = taken state (results_of state p.tag p.value) (number_of p.value) in
    let r = points_back points next (taken_sound state s p.tag p.value 6 e) (omega arith) (follows_next state.points state.last p points f) t.1 d.1 in (
      before p r.0,
      rw (
        reads_field due.Point p.tag p.value (written_points points) (eqb-true _ _ (not-false _ (c 12))) (ap not (c 11)),
        add_good state p.tag p.value 6 (adding_sound state s p.tag p.value 6 ∙ e),
        r.1,
      ),
      ap (λ ps. p ∷ ps) r.2,
    )

-- points that are read are those that writing takes
record Were (state : State) (n : ℕ) (points : List Point) : Type 0 where
  pub count : length points ≡ n
  pub rising : T (follows state.points state.last points)
  pub takes : Each Takes points
  pub shows : Each (ShowsDays state.head state.marks) points

module _ (state : State) (p : Point) (e : (add_of state p.tag p.value 6).refusal ≡ 0) where
  abbrev first : List (Bool × ℕ)
  first = unsound_row state ++ before_value state.head state.points state.last p.tag p.value 6

  first_and_rest : (first_told first ≡ 0) × (first_told (values p ++ days state.head state.marks p) ≡ 0)
  unfolding adding_refusal
  first_and_rest = both_accepted first (values p ++ days state.head state.marks p) tt (sym (add_refusal state p.tag p.value 6) ∙ e)

  values_and_days : (first_told (values p) ≡ 0) × (first_told (days state.head state.marks p) ≡ 0)
  values_and_days = both_accepted (values p) (days state.head state.marks p) (numbered_here p) first_and_rest.1

  first_untold : (n : ℕ) → test_of n first ≡ false
  first_untold = untold first tt first_and_rest.0

  takes_back : Takes p
  unfolding point_writing_refusal
  takes_back =
      let form = passed (form_and_number p) (values p) tt (among (form_and_number p) first refl first_untold) in
      passed (value_writing_tests p.tag p.value) (room_row (room_for p) (3 + length p.value)) (numbered_here p) (form ∙ values_and_days.0)
      ∙ simp (le-ltb (room_for p) (3 + length p.value) (omega arith))

  shows_back : ShowsDays state.head state.marks p
  shows_back = rw (untold (days state.head state.marks p) tt values_and_days.1 18) tt

points_were : {n : ℕ} {state : State} {left : List ℕ} {x : Points} → Points-read n state left x → Were state n x.points
unfolding taken
points_were {state} (none e) = record { count = refl; rising = follows_none state.points state.last; takes = tt; shows = tt }
points_were {state} (more {part} {rest} cut e read) =
    let p = part.point in
    let is = ap (λ a. a.state) (add_good state p.tag p.value 6 (sym (add_refusal state p.tag p.value 6) ∙ e)) in
    let i = rw is at (points_were read) in
    record {
      count = ap suc i.count;
      rising = follows_more state.points state.last p rest.points (first_untold state p e 15) i.rising;
      takes = (takes_back state p e, i.takes);
      shows = (shows_back state p e, i.shows);
    }

-- and were written so
points_same : {n : ℕ} {state : State} {left : List ℕ} {x : Points} → Bytes left → Points-read n state left x → written_points x.points ≡ left
unfolding gather
points_same {left = []} b (none e) = refl
points_same {left = a ∷ left} b (none e) = absurd (omega arith)
points_same {left} b (more {part} cut e read) =
    let p = part.point in
    let w = was_written due.Point left part b cut in
    ap (λ bytes. written p.tag p.value ++ bytes) (points_same w.bytes read) ∙ w.same

-- ---- whole books

-- what `write_head` asks of a head is what opening asks, and room
pub head_opens : (h c : List ℕ) → head_writing_refusal h c head_room ≡ 0 → opening_refusal h c ≡ 0
unfolding head_writing_refusal opening_refusal
head_opens h c e = (both_accepted (opening_tests h c) (room_row head_room head_room) tt e).0

head_takes : (h c : List ℕ) → opening_refusal h c ≡ 0 → head_writing_refusal h c head_room ≡ 0
unfolding head_writing_refusal opening_refusal
head_takes h c e = passed (opening_tests h c) (room_row head_room head_room) tt e

pub reads_back : ReadsBack
unfolding read_book written_book
reads_back b w =
    let h = b.head in
    let c = b.calendar in
    let ps = written_points b.points in
    let opens = head_opens h c w.head in
    let lengths = opening_lengths h c opens in
    let state = opened (head_of h) c in
    let r = points_back b.points state (opened_sound h c opens) (zero-add (length b.points) ∙ w.count) w.rising w.taken w.shows_days in
    let q : read_points (head_of h).count state ps ≡ good r.0 = subst (λ (n : ℕ). read_points n state ps ≡ good r.0) w.count r.1 in (
      book_of h c r.0,
      rw (
        append_assoc (written 1 h) (written 2 c) ps,
        reads_field due.Head 1 h (written 2 c ++ ps) lengths.0 refl,
        reads_field due.Calendar 2 c ps lengths.1 refl,
        open_good h c opens,
        q,
      ),
      rw r.2,
    )

pub reads_writable : ReadsWritable
reads_writable book r e =
    let k = book_read book r e in
    let h = k.head.point.value in
    let c = k.calendar.point.value in
    let o = sym (open_refusal h c) ∙ k.opens in
    let is = ap (λ a. a.state) (open_good h c o) in
    let w = points_were (rw is at k.points_read) in
    rw k.is (record { head = head_takes h c o; count = w.count; rising = w.rising; taken = w.takes; shows_days = w.shows })

pub writes_same : WritesSame
unfolding written_book
writes_same book bytes r e =
    let k = book_read book r e in
    let h = k.head.point.value in
    let c = k.calendar.point.value in
    let u = was_written due.Head book k.head bytes k.head_cut in
    let v = was_written due.Calendar k.head.left k.calendar u.bytes k.calendar_cut in
    let ps = written_points k.points.points in
    let first = ap (λ (t : ℕ). written t h ++ k.head.left) (sym (eqb-true _ 1 u.tag)) ∙ u.same in
    let second = ap (λ (t : ℕ). written t c ++ k.calendar.left) (sym (eqb-true _ 2 v.tag)) ∙ v.same in
    rw (k.is, append_assoc (written 1 h) (written 2 c) ps, points_same v.bytes k.points_read, second) first

-- ---- the number of Whole book

gives_zero : (book : List ℕ) (r : Book) → read_book book ≡ good r → settling_refusal book result_length ≡ 0
unfolding settling_refusal
gives_zero book r e = rw e (closes book r e)

pub read_in_full : ReadInFull
read_in_full book = record { gives = gives_zero book; back = λ z. let f = gives_figures book z in (f.0, f.1) }

pub written_gives_zero : WrittenGivesZero
written_gives_zero b w = let r = reads_back b w in gives_zero (written_book b) r.0 r.1
