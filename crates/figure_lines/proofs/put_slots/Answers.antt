use Rattle.std.proofs.Common.{rules, pos}
use mathlib.Core.List.{append_assoc, append-nil}
use Rattle.std.proofs.lemmas.List.{drop_more, drop_all}
use Rattle.lines.proofs.Decimals.{decimal_is, signed_is}
use Rattle.figure_lines.specs.FigureLines.{slot_lines}
use Rattle.figure_lines.proofs.put_slots.Goals as goal

pub loop-i-preserved : goal.loop-i-preserved
unfolding slot_lines
loop-i-preserved g c = record {
  to_come = search (rules, append_assoc, decimal_is, signed_is, drop_more c.args.totals c.loop-i.i (pos 0));
  bound = search rules;
}

pub returns-clause-bytes : goal.returns-clause-bytes
unfolding slot_lines
returns-clause-bytes g c = search (rules, append-nil, drop_all c.loop-i.i c.args.totals)
