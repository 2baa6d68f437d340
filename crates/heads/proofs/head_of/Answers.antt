use mathlib.Core.Path.{◌∙◌, ap}
use Rattle.heads.specs.Heads.{head_with, head_of}
use Rattle.heads.proofs.head_of.Goals as goal

pub returns : goal.returns
unfolding head_of
returns c =
    let bytes = c.args.bytes.now in
    c.head_with.ensures ∙ ap (λ count. head_with count bytes) (c.from.ensures ∙ c.word16_at.ensures)
