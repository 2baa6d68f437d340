-- The writing calls one after the other: a head with its calendar, then the points, each behind the last.
use Rattle.std.specs.Prelude.{◌≡◌, List, [], ◌∷◌, ◌++◌, map, ℕ, ◌≤◌, length, take, drop}
use Rattle.numbers.specs.Placing.{at_front}
use Rattle.points.specs.Points.{Point}
use Rattle.writing.specs.Writing.{head_writing_refusal, head_writing_out, point_writing_answer, point_writing_out}
use Rattle.book.specs.Reading.{Contents}
use Rattle.round_trips.specs.Demand2.{head_room, room_for, Each, written_book}

-- the lent bytes after `write_point` for each point: a call is lent what lies behind the last one's field
unfoldable pub points_out : List Point → List ℕ → List ℕ
points_out [] out = out
points_out (p ∷ points) out =
    let after = point_writing_out p.tag p.value out in
    take (room_for p) after ++ points_out points (drop (room_for p) after)

-- the refusal numbers that these calls answer
unfoldable pub points_answers : List Point → List ℕ → List ℕ
points_answers [] out = []
points_answers (p ∷ points) out =
    (point_writing_answer p.tag p.value (length out)).number
    ∷ points_answers points (drop (room_for p) (point_writing_out p.tag p.value out))

-- with `write_head` before them
unfoldable pub book_out : Contents → List ℕ → List ℕ
book_out b out =
    let after = head_writing_out b.head b.calendar out in
    take head_room after ++ points_out b.points (drop head_room after)

unfoldable pub book_answers : Contents → List ℕ → List ℕ
book_answers b out =
    head_writing_refusal b.head b.calendar (length out)
    ∷ points_answers b.points (drop head_room (head_writing_out b.head b.calendar out))

-- THE WRITING CALLS, for a head and points that each of them takes, however many and in any order: where there is room, they leave the
-- written book followed by the old bytes, and each answers 0.
pub record WroteBook (b : Contents) (out : List ℕ) : Type 0 where
  pub bytes : book_out b out ≡ at_front (written_book b) out
  pub answers : book_answers b out ≡ 0 ∷ map (λ p. 0) b.points

abbrev pub WritingCalls : Type 0
WritingCalls = (b : Contents)
    → head_writing_refusal b.head b.calendar head_room ≡ 0
    → Each (λ p. (point_writing_answer p.tag p.value (room_for p)).number ≡ 0) b.points
    → (out : List ℕ)
    → length (written_book b) ≤ length out → WroteBook b out
