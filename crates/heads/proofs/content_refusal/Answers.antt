-- Six groups of rows, one after the other: each tells its number or is passed.
use mathlib.Core.Path.{◌≡◌, refl, sym, ◌∙◌}
use borrow.Author.Rules.{rules}
use mathlib.Core.Bool.{Bool}
use mathlib.Core.List.{List, ◌++◌}
use Prim.Native.Nat.{ℕ}
use Rattle.numbers.specs.Refusals.{first_told}
use Rattle.numbers.proofs.Refusals.{tells, passes}
use Rattle.refusals.specs.Told.{number_of, number_told}
use Rattle.refusals.proofs.Refused.{refused}
use Rattle.calendar.specs.Eligible.{mark_row}
use Rattle.heads.specs.Heads.{day_rows, slot_row, loss_row, contract_row, counts, count_row, content_refusal}
use Rattle.heads.specs.declared.Head.{Head}
use Rattle.heads.proofs.content_refusal.Goals as goal

module _ (head : Head) (marks : List ℕ) where
  -- ---- the rows from a group on, and what is told of them

  abbrev from_count : List (Bool × ℕ)
  from_count = count_row counts head.count ++ mark_row marks

  abbrev from_contract : List (Bool × ℕ)
  from_contract = contract_row head.contract ++ from_count

  abbrev from_loss : List (Bool × ℕ)
  from_loss = loss_row head.losses ++ from_contract

  abbrev from_slot : List (Bool × ℕ)
  from_slot = slot_row head.slot ++ from_loss

  abbrev Told : List (Bool × ℕ) → Type 0
  Told rows = content_refusal head marks ≡ first_told rows

  -- ---- behind a group that is passed the next one tells

  slot_next : 0 ≡ first_told (day_rows head) → Told from_slot
  unfolding content_refusal
  slot_next e = passes (day_rows head) from_slot e tt refl

  loss_next : 0 ≡ first_told (slot_row head.slot) → Told from_slot → Told from_loss
  loss_next e told = told ∙ passes (slot_row head.slot) from_loss e tt refl

  contract_next : 0 ≡ first_told (loss_row head.losses) → Told from_loss → Told from_contract
  contract_next e told = told ∙ passes (loss_row head.losses) from_contract e tt refl

  count_next : 0 ≡ first_told (contract_row head.contract) → Told from_contract → Told from_count
  count_next e told = told ∙ passes (contract_row head.contract) from_count e tt refl

  marks_next : 0 ≡ first_told (count_row counts head.count) → Told from_count → Told (mark_row marks)
  marks_next e told = told ∙ passes (count_row counts head.count) (mark_row marks) e tt refl

-- ---- the ways out

pub returns-in_err-day_refusal : goal.returns-in_err-day_refusal
unfolding content_refusal
returns-in_err-day_refusal c =
    let h = c.args.head in
    let m = c.args.marks in
    let sent : number_told c.from_residual.result ≡ number_of c.in_err-day_refusal.field-0.0 = search rules in
    sent ∙ tells (day_rows h) (from_slot h m) c.in_err-day_refusal.ensures (refused _)

pub returns-in_err-slot_refusal : goal.returns-in_err-slot_refusal
returns-in_err-slot_refusal c =
    let h = c.args.head in
    let m = c.args.marks in
    let at_slot = slot_next h m c.in_ok-day_refusal.ensures in
    let sent : number_told c.from_residual-in_err-slot_refusal.result ≡ number_of c.in_err-slot_refusal.field-0.0 = search rules in
    sent ∙ tells (slot_row h.slot) (from_loss h m) c.in_err-slot_refusal.ensures (refused _) ∙ sym at_slot

pub returns-in_err-loss_refusal : goal.returns-in_err-loss_refusal
returns-in_err-loss_refusal c =
    let h = c.args.head in
    let m = c.args.marks in
    let at_slot = slot_next h m c.in_ok-day_refusal.ensures in
    let at_loss = loss_next h m c.in_ok-slot_refusal.ensures at_slot in
    let sent : number_told c.from_residual-in_err-loss_refusal.result ≡ number_of c.in_err-loss_refusal.field-0.0 = search rules in
    sent ∙ tells (loss_row h.losses) (from_contract h m) c.in_err-loss_refusal.ensures (refused _) ∙ sym at_loss

pub returns-in_err-contract_refusal : goal.returns-in_err-contract_refusal
returns-in_err-contract_refusal c =
    let h = c.args.head in
    let m = c.args.marks in
    let at_slot = slot_next h m c.in_ok-day_refusal.ensures in
    let at_loss = loss_next h m c.in_ok-slot_refusal.ensures at_slot in
    let at_contract = contract_next h m c.in_ok-loss_refusal.ensures at_loss in
    let sent : number_told c.from_residual-in_err-contract_refusal.result ≡ number_of c.in_err-contract_refusal.field-0.0 = search rules in
    sent ∙ tells (contract_row h.contract) (from_count h m) (rw c.from.ensures at c.in_err-contract_refusal.ensures) (refused _) ∙ sym at_contract

pub returns-in_err-count_refusal : goal.returns-in_err-count_refusal
returns-in_err-count_refusal c =
    let h = c.args.head in
    let m = c.args.marks in
    let at_slot = slot_next h m c.in_ok-day_refusal.ensures in
    let at_loss = loss_next h m c.in_ok-slot_refusal.ensures at_slot in
    let at_contract = contract_next h m c.in_ok-loss_refusal.ensures at_loss in
    let at_count = count_next h m (rw c.from.ensures at c.in_ok-contract_refusal.ensures) at_contract in
    let sent : number_told c.from_residual-in_err-count_refusal.result ≡ number_of c.in_err-count_refusal.field-0.0 = search rules in
    sent ∙ tells (count_row counts h.count) (mark_row m) c.in_err-count_refusal.ensures (refused _) ∙ sym at_count

pub returns : goal.returns
returns c =
    let h = c.args.head in
    let m = c.args.marks in
    let at_slot = slot_next h m c.in_ok-day_refusal.ensures in
    let at_loss = loss_next h m c.in_ok-slot_refusal.ensures at_slot in
    let at_contract = contract_next h m c.in_ok-loss_refusal.ensures at_loss in
    let at_count = count_next h m (rw c.from.ensures at c.in_ok-contract_refusal.ensures) at_contract in
    c.marks_refusal.ensures ∙ sym (marks_next h m c.in_ok-count_refusal.ensures at_count)
