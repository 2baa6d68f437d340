-- The closing of a book that is read in full is never refused. Assumes nothing.
use mathlib.Core.Path.{◌≡◌, sym, ap, ◌∙◌}
use mathlib.Core.List.{List}
use Prim.Native.Nat.{ℕ, ◌+◌}
use native.Mathlib.Nat.{zero-add}
use native.Mathlib.Omega.{arith}
use borrow.Author.Tests.{le-ltb}
use Rattle.heads.specs.Heads.{head_of}
use Rattle.ledger.specs.States.{taken}
use Rattle.ledger.specs.Operations.{close_of}
use Rattle.ledger.specs.declared.State.{State}
use Rattle.ledger.proofs.Sound.{open_refusal, open_good, add_refusal, add_good, close_refusal, Sound, opened_sound, add_sound, closing_sound}
use Rattle.book.specs.Reading.{good, Points, Book, read_book}
use Rattle.book.proofs.Readings.{Points-read, none, more, book_read}

points_close : {n : ℕ} {state : State} {left : List ℕ} {x : Points} → Sound state → state.points + n ≡ state.head.count → Points-read n state left x
    → Sound x.state × (x.state.points ≡ x.state.head.count)
unfolding taken
points_close s k (none e) = (s, omega arith)
points_close {state} s k (more {part} cut e read) =
    let p = part.point in
    let is = ap (λ a. a.state) (add_good state p.tag p.value 6 (sym (add_refusal state p.tag p.value 6) ∙ e)) in
    points_close (add_sound state s p.tag p.value 6) (rw is (omega arith)) read

pub closes : (book : List ℕ) (r : Book) → read_book book ≡ good r → (close_of r.state).refusal ≡ 0
closes book r e =
    let k = book_read book r e in
    let h = k.head.point.value in
    let c = k.calendar.point.value in
    let o = sym (open_refusal h c) ∙ k.opens in
    let is = ap (λ a. a.state) (open_good h c o) in
    let x = points_close (opened_sound h c o) (zero-add (head_of h).count) (rw is at k.points_read) in
    rw (k.is, close_refusal, closing_sound k.points.state x.0, le-ltb k.points.state.points k.points.state.head.count (omega arith))
