-- Point by point: what is left to read ends as the whole does.
use Rattle.std.proofs.Common.{◌≡◌, ◌-◌}
use Rattle.book.specs.Reading.{read_points}
use Rattle.book.specs.Endings.{points_ending}
use Rattle.book.proofs.settling.read_points.Given as goal

abbrev pub invariant-loop : goal.invariant-loop
invariant-loop l =
    points_ending (read_points l.end l.initial.state l.initial.left) ≡ points_ending (read_points (l.end - l.counter) l.state l.left)
