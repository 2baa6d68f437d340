use Rattle.std.proofs.Common.{rules}
use mathlib.Core.List.{append_assoc}
use Rattle.lines.proofs.Decimals.{signed_is}
use Rattle.sheet.proofs.put_capacity_lines.Goals as goal

pub returns : goal.returns
returns g c = search (rules, append_assoc, signed_is)
