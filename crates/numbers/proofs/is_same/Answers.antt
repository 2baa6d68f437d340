use mathlib.Core.Path.{◌∙◌}
use Rattle.numbers.proofs.Same.{pointwise_same}
use Rattle.numbers.proofs.is_same.Goals as goal

pub returns : goal.returns
returns c = c.eq.ensures ∙ pointwise_same _ _
