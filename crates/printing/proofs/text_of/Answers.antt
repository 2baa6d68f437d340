-- The one line of a refused book, or the lines of a settled one.
use Rattle.std.proofs.Common.{◌∙◌, sym, rules}
use Rattle.lines.proofs.Decimals.{decimal_is}
use Rattle.refusals.proofs.Refused.{refused}
use Rattle.book.specs.Told.{ending_told}
use Rattle.printing.proofs.Texts.{text_refused, text_settled}
use Rattle.printing.proofs.text_of.Goals as goal

pub returns-in-Ok : goal.returns-in-Ok
returns-in-Ok c =
    let settled = c.in-Ok.ensures in
    search (rules, settled.settled, text_settled (ending_told c.args.ending) (sym settled.refusal))

pub returns-in-Err : goal.returns-in-Err
returns-in-Err c =
    let told = c.in-Err.ensures.refusal in
    search (rules, decimal_is, told, text_refused (ending_told c.args.ending) (λ e. refused c.in-Err.refusal (told ∙ e)))
