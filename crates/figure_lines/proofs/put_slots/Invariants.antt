-- The lines of the slots from i on are those that are still to come.
use Rattle.std.proofs.Common.{◌≡◌, ◌+◌, ◌*◌, ◌≤◌, ◌++◌, drop}
use Rattle.arrayvec.specs.ArrayVec.{array_vec_len}
use Rattle.figure_lines.specs.FigureLines.{slot_lines}
use Rattle.figure_lines.proofs.put_slots.Given as goal

abbrev pub invariant-loop-i : goal.invariant-loop-i
invariant-loop-i g l = record {
  to_come : l.text.items ++ slot_lines (1 + l.i) (drop l.i l.total-items) ≡ l.initial.text.items ++ slot_lines 1 l.total-items;
  bound : array_vec_len l.text ≤ array_vec_len l.initial.text + 47 * l.i;
}
