-- Both fields, one behind the other.
use mathlib.Core.Path.{◌≡◌, refl, sym, ◌∙◌}
use mathlib.Core.List.{List}
use Prim.Native.Nat.{ℕ, ◌+◌, ◌-◌, ◌≤◌}
use native.Mathlib.Omega.{arith}
use lib.ListN.{length, drop, length-drop, length-take}
use Rattle.heads.specs.Heads.{head_tag, calendar_tag, head_length, calendar_length, opening_refusal}
use Rattle.heads.proofs.Opening.{opening_lengths}
use Rattle.fields.specs.Fields.{written}
use Rattle.writing.proofs.Storing.{head_written, head_put, written_length, first_length, both_parts}
use Rattle.writing.proofs.write_head.Goals as goal

-- a head that opening accepts: its field, and room for the calendar's behind it
module _ (head calendar : List ℕ) (opens : 0 ≡ opening_refusal head calendar) where
  lengths : (length head ≡ head_length) × (length calendar ≡ calendar_length)
  lengths = opening_lengths head calendar (sym opens)

  field_length : length (written head_tag head) ≡ 20
  field_length = written_length head_tag head ∙ omega (arith, lengths)

  room : (out : List ℕ) → 53 ≤ length out → 20 + length (written calendar_tag calendar) ≤ length out
  room out h = omega (arith, written_length calendar_tag calendar, lengths)

pub put_field-requires : goal.put_field-requires
put_field-requires c =
    let l = lengths c.args.head.now c.args.calendar.now c.in_ok-opening_refusal.ensures in
    (omega arith, omega arith)

pub put_field-requires-2 : goal.put_field-requires-2
put_field-requires-2 c =
    let h = c.args.head.now in
    let k = c.args.calendar.now in
    let o = c.args.out.now in
    let opens = c.in_ok-opening_refusal.ensures in
    let x = c.put_field.new.out in
    let l = lengths h k opens in
    let e = first_length (written head_tag h) (written calendar_tag k) o x _ 20 (field_length h k opens) (room h k opens o c.if-out-lt-HEAD_ROOM.false)
    c.put_field.ensures refl
    in
    (omega arith, omega (arith, length-take (length x - 20) (drop 20 x), length-drop 20 x))

pub returns-clause-out_after : goal.returns-clause-out_after
returns-clause-out_after c =
    let h = c.args.head.now in
    let k = c.args.calendar.now in
    let o = c.args.out.now in
    let opens = c.in_ok-opening_refusal.ensures in
    let accepted = head_written h k o (sym opens) c.if-out-lt-HEAD_ROOM.false in
    both_parts (written head_tag h) (written calendar_tag k) o c.put_field.new.out c.put_field-2.new.out 20 (field_length h k opens)
    (room h k opens o c.if-out-lt-HEAD_ROOM.false) c.put_field.ensures c.put_field-2.ensures
    ∙ sym (head_put h k o accepted)
