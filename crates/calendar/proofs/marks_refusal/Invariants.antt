-- What is left of the marks decides.
use mathlib.Core.Path.{◌≡◌}
use mathlib.Core.Bool.{Bool, not}
use Prim.Native.Nat.{ℕ}
use lib.ListN.{drop}
use Rattle.numbers.specs.Lists.{any}
use Rattle.calendar.specs.Eligible.{is_mark}
use Rattle.calendar.proofs.marks_refusal.Given as goal

abbrev pub is_wrong : ℕ → Bool
is_wrong mark = not (is_mark mark)

abbrev pub invariant-loop-mark : goal.invariant-loop-mark
invariant-loop-mark l = any is_wrong l.marks ≡ any is_wrong (drop l.mark-index l.marks)
