-- Part by part: what is left is told as the whole is. Assumes nothing.
use Rattle.std.proofs.Common.{◌≡◌, ◌+◌, ◌*◌, length}
use Rattle.readings.specs.Readings.{reading_length, large_place}
use Rattle.readings.proofs.Parts.{behind}
use Rattle.readings.proofs.large_by_parts.Given as goal

abbrev pub invariant-loop-part : goal.invariant-loop-part
invariant-loop-part l =
    (large_place l.fn.readings ≡ behind l.passed (large_place l.left)) × (l.passed * reading_length + length l.left ≡ length l.fn.readings)

abbrev pub decreases-loop-part : goal.decreases-loop-part
decreases-loop-part l = length l.left
