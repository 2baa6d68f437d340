use mathlib.Core.Path.{sym, ◌∙◌}
use Rattle.results.proofs.SlotResults.{floor_one}
use mir.Facts.{to_z-of_z}
use mir.Syntax.{w64}
use borrow.Author.Rules.{sfits_of}
use Rattle.results.proofs.generator_result.Goals as goal

pub returns : goal.returns
returns c = to_z-of_z {w = w64} (sfits_of c.minus.type_inv) ∙ rw (c.from.ensures, c.from-2.ensures) at c.minus.ensures ∙ sym (floor_one _)
