use mathlib.Core.Path.{◌∙◌}
use Rattle.numbers.proofs.Words.{high_first}
use Rattle.numbers.proofs.length_bytes.Goals as goal

pub returns : goal.returns
returns c = c.to_be_bytes.ensures ∙ high_first 2 c.args.n
