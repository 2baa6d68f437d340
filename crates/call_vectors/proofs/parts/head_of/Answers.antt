use Rattle.std.proofs.Common.{ap, ◌∙◌}
use Rattle.heads.specs.Heads.{head_with}
use Rattle.call_vectors.specs.Parts.{head_in}
use Rattle.call_vectors.proofs.parts.head_of.Goals as goal

pub returns : goal.returns
unfolding head_in
returns c = c.head_with.ensures ∙ ap (λ count. head_with count c.args.bytes.now) c.word32_at.ensures
