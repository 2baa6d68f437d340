use Rattle.heads.proofs.head_with.Goals as goal

pub returns : goal.returns
returns c =
    cc (c.word16_at-year.ensures, c.word16_at-low.ensures, c.word16_at-high.ensures, c.word16_at-extra_high.ensures, c.word32_at-contract.ensures)
