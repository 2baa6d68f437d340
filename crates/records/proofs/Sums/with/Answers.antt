use Rattle.records.proofs.Summing.{summed}
use Rattle.records.proofs.Sums.with.Goals as goal

pub returns : goal.returns
returns c =
    let s = c.args.self in
    let w = c.args.words in
    simp (
      summed s.points w.points c.requires.points,
      summed s.total w.total c.requires.total,
      summed s.settled w.settled c.requires.settled,
      summed s.shortfall w.shortfall c.requires.shortfall,
      summed s.expected w.expected c.requires.expected,
      summed s.kept w.kept c.requires.kept,
      summed s.surplus w.surplus c.requires.surplus,
    )
