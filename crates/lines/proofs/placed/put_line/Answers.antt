-- One behind the other. Assumes nothing.
use Rattle.numbers.proofs.Places.{then}
use Rattle.lines.proofs.placed.put_line.Goals as goal

pub returns-clause-placed : goal.returns-clause-placed
returns-clause-placed g c = then c.put-named.ensures (then c.put_number-told.ensures.placed c.put.ensures)
