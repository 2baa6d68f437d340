use Rattle.std.proofs.Common.{rules}
use Rattle.sheet.proofs.Sheets.{sheet_accepted, sheet_refused}
use Rattle.sheet.proofs.sheet_of.Goals as goal

pub returns-in-Ok : goal.returns-in-Ok
returns-in-Ok c = search (rules, sheet_accepted c.in-Ok.sums)

pub returns-in-Err : goal.returns-in-Err
returns-in-Err c = search (rules, sheet_refused c.in-Err.refusal)
