use Rattle.std.proofs.Common.{rules}
use mathlib.Core.List.{append_assoc}
use Rattle.lines.proofs.Decimals.{decimal_is, signed_is}
use Rattle.figure_lines.proofs.put_settled_lines.Goals as goal

pub returns-clause-bytes : goal.returns-clause-bytes
returns-clause-bytes g c = search (rules, append_assoc, decimal_is, signed_is)
