-- A value that is cut, or what a whole one gives.
use mathlib.Core.List.{List}
use mathlib.Core.Path.{◌≡◌, sym, ap, ◌∙◌}
use Prim.Native.Nat.{ℕ, ◌≤◌}
use lib.ListN.{length, take}
use Rattle.fields.specs.Fields.{length_due}
use Rattle.fields.specs.declared.Due.{Due}
use Rattle.feeding.specs.Feeding.{Progress, got, value_fed}
use Rattle.feeding.proofs.Values.{value_cut, value_from}
use Rattle.feeding.proofs.Progress.feed_value.Goals as goal

-- what a whole value gives, whichever is due
as_fed : (due : Due) (tag : ℕ) (p : Progress) (bytes : List ℕ) (size : ℕ) → size ≡ length_due due tag → size ≤ length bytes
    → {kind : Due} → due ≡ kind → got kind tag p (take size bytes) ≡ value_fed due tag p bytes
as_fed due tag p bytes size known room e = ap (λ k. got k tag p (take size bytes)) (sym e) ∙ value_from due tag p bytes size known room

pub returns-then-bytes-size : goal.returns-then-bytes-size
returns-then-bytes-size c = sym (value_cut _ _ _ _ (rw c.length_due-size.ensures.value at c.if-bytes-size.true))

pub returns-in-Head : goal.returns-in-Head
returns-in-Head c = c.got_head.ensures ∙ as_fed _ _ _ _ _ c.length_due-size.ensures.value c.if-bytes-size.false c.in-Head.is

pub returns-in-Calendar : goal.returns-in-Calendar
returns-in-Calendar c = c.got_calendar.ensures ∙ as_fed _ _ _ _ _ c.length_due-size.ensures.value c.if-bytes-size.false c.in-Calendar.is

pub returns-in-Point : goal.returns-in-Point
returns-in-Point c = c.got_point.ensures ∙ as_fed _ _ _ _ _ c.length_due-size.ensures.value c.if-bytes-size.false c.in-Point.is
