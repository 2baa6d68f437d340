use Rattle.std.proofs.Common.{rules}
use mathlib.Core.List.{append_assoc}
use Rattle.lines.proofs.Decimals.{signed_is}
use Rattle.sheet.proofs.put_test_lines.Goals as goal

pub returns-clause-bytes : goal.returns-clause-bytes
returns-clause-bytes g c = search (rules, append_assoc, signed_is)
