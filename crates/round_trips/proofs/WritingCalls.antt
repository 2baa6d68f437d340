-- The writing calls, one behind the other. Assumes nothing.
use mathlib.Core.Path.{◌≡◌, refl, ap, ap₂, ◌∙◌}
use mathlib.Core.List.{List, [], ◌∷◌, ◌++◌, map}
use Prim.Native.Nat.{ℕ, ◌≤◌}
use native.Mathlib.Omega.{arith}
use borrow.Author.Tests.{le-ltb}
use lib.ListN.{length, take, drop, length-append, length-drop}
use lib.Seq.{take_at, drop_at}
use Rattle.numbers.specs.Lists.{gather}
use Rattle.numbers.specs.Placing.{at_front}
use Rattle.numbers.proofs.Places.{front_then}
use Rattle.numbers.proofs.Refusals.{passed, both_accepted}
use Rattle.heads.proofs.Opening.{opening_lengths}
use Rattle.points.specs.Points.{Point}
use Rattle.points.proofs.PointKinds.{values_numbered}
use Rattle.fields.specs.Fields.{written}
use Rattle.writing.specs.Writing.{room_row, written_head, value_writing_tests, point_writing_refusal, point_writing_out}
use Rattle.writing.proofs.Storing.{head_put, head_written, written_length}
use Rattle.round_trips.specs.Demand2.{head_room, room_for, written_book, Each}
use Rattle.round_trips.specs.WritingCalls.{points_out, points_answers, book_out, book_answers, WritingCalls}
use Rattle.round_trips.proofs.RoundTrips.{Takes, written_points, head_opens}

-- a point that writing takes is taken where there is more room
taken_with : (p : Point) (room : ℕ) → Takes p → room_for p ≤ room → point_writing_refusal p.tag p.value room ≡ 0
unfolding point_writing_refusal
taken_with p room t h =
    let tests = value_writing_tests p.tag p.value in
    let n = values_numbered p.tag p.value in
    passed tests (room_row room (room_for p)) n (both_accepted tests (room_row (room_for p) (room_for p)) n t).0 ∙ simp (le-ltb room (room_for p) h)

point_out : (p : Point) (out : List ℕ) → Takes p → room_for p ≤ length out
    → point_writing_out p.tag p.value out ≡ at_front (written p.tag p.value) out
unfolding point_writing_out
point_out p out t h = rw (taken_with p (length out) t h)

record Wrote (points : List Point) (out : List ℕ) : Type 0 where
  pub bytes : points_out points out ≡ at_front (written_points points) out
  pub answers : points_answers points out ≡ map (λ p. 0) points

-- points behind what a call wrote
module _ (first out : List ℕ) (n : ℕ) (points : List Point) (e : length first ≡ n) (w : Wrote points (drop (length first) out)) where
  behind_is : drop n (at_front first out) ≡ drop (length first) out
  behind_is = drop_at first (drop (length first) out) n e

  then_bytes : take n (at_front first out) ++ points_out points (drop n (at_front first out)) ≡ at_front (first ++ written_points points) out
  then_bytes = rw (take_at first (drop (length first) out) n e, behind_is, w.bytes) (front_then first out (written_points points))

  then_answers : points_answers points (drop n (at_front first out)) ≡ map (λ p. 0) points
  then_answers = rw behind_is w.answers

points_wrote : (points : List Point) (out : List ℕ) → Each Takes points → length (written_points points) ≤ length out → Wrote points out
unfolding gather points_out points_answers
points_wrote [] out t h = record { bytes = refl; answers = refl }
points_wrote (p ∷ points) out t h =
    let field = written p.tag p.value in
    let size = written_length p.tag p.value in
    let both = length-append field (written_points points) in
    let room : room_for p ≤ length out = omega arith in
    let w = points_wrote points (drop (length field) out) t.1 (omega (arith, length-drop (length field) out)) in
    let is = point_out p out t.0 room in
    record {
      bytes = rw is (then_bytes field out (room_for p) points size w);
      answers = rw (is, taken_with p (length out) t.0 room) (ap (λ told. 0 ∷ told) (then_answers field out (room_for p) points size w));
    }

pub writing_calls : WritingCalls
unfolding written_book book_out book_answers
writing_calls b head taken out h =
    let first = written_head b.head b.calendar in
    let opens = head_opens b.head b.calendar head in
    let lengths = opening_lengths b.head b.calendar opens in
    let size : length first ≡ head_room =
    length-append (written 1 b.head) (written 2 b.calendar) ∙ omega (arith, written_length 1 b.head, written_length 2 b.calendar) in
    let both = length-append first (written_points b.points) in
    let accepted = head_written b.head b.calendar out opens (omega arith) in
    let put = head_put b.head b.calendar out accepted in
    let i = points_wrote b.points (drop (length first) out) taken (omega (arith, length-drop (length first) out)) in
    record {
      bytes = rw put (then_bytes first out head_room b.points size i);
      answers = ap₂ (λ told rest. told ∷ rest) accepted (rw put (then_answers first out head_room b.points size i));
    }
