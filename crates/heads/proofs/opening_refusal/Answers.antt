-- The lengths, then the values.
use mathlib.Core.Path.{◌∙◌}
use borrow.Author.Tests.{eq-eqb, ne_eqb}
use Rattle.heads.specs.Heads.{content_refusal, opening_refusal}
use Rattle.heads.proofs.opening_refusal.Goals as goal
use Rattle.heads.proofs.opening_refusal.Goals.{then-head-ne-HEAD_LENGTH-via-then-head-ne-HEAD_LENGTH, then-head-ne-HEAD_LENGTH-via-else-head-ne-HEAD_LENGTH+then-calendar-ne-CALENDAR_LENGTH}

pub returns-then-head-ne-HEAD_LENGTH : goal.returns-then-head-ne-HEAD_LENGTH
unfolding opening_refusal content_refusal
returns-then-head-ne-HEAD_LENGTH c = elim c.then-head-ne-HEAD_LENGTH.branch [
  | then-head-ne-HEAD_LENGTH-via-then-head-ne-HEAD_LENGTH w ↦ simp (ne_eqb _ _ w.if-head-ne-HEAD_LENGTH.true)
  | then-head-ne-HEAD_LENGTH-via-else-head-ne-HEAD_LENGTH+then-calendar-ne-CALENDAR_LENGTH w ↦ simp (eq-eqb _ _ w.if-head-ne-HEAD_LENGTH.false, ne_eqb _ _ w.if-calendar-ne-CALENDAR_LENGTH.true)
]

pub returns : goal.returns
unfolding opening_refusal content_refusal
returns c =
    let size = c.if-calendar-ne-CALENDAR_LENGTH.false in
    simp (eq-eqb _ _ c.if-head-ne-HEAD_LENGTH.false, eq-eqb _ _ size)
    (c.content_refusal.ensures ∙ rw (c.head_of.ensures, c.array_of.ensures.whole size))
