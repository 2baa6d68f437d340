-- `sum_of_six` meets its contract. Assumes nothing.
use mathlib.Core.Path.{◌≡◌, ◌∙◌}
use native.Mathlib.Omega.{arith}
use borrow.Author.Rules.{rules}
use lib.ListN.{length}
use Rattle.std.specs.List as list
use Rattle.numbers.specs.Slots.{window_slots}
use Rattle.numbers.proofs.Chains.{sum_is}
use Rattle.std.proofs.lemmas.Iterator.{YieldsList-from_slice}
use Rattle.std.proofs.lemmas.Iterator.Consumers.{sum_from_yields_List, fits_from_yields_list}
use Rattle.baseline.proofs.Bounds.{sum_bound}
use Rattle.baseline.proofs.sum_of_six.Goals as goal

pub sum-requires-clause-fits : goal.sum-requires-clause-fits
sum-requires-clause-fits c =
    let sums = c.args.sums in
    let six : length sums ≡ window_slots = search rules in
    fits_from_yields_list c.iter.result _ (YieldsList-from_slice sums (cc)) (omega (arith, sum_bound _ sums c.requires))

pub returns-clause-total : goal.returns-clause-total
returns-clause-total c =
    let sums = c.args.sums in
    sum_from_yields_List c.iter.result _ c.sum.ensures.ran (YieldsList-from_slice sums (cc)) ∙ sum_is sums

pub returns-clause-most : goal.returns-clause-most
returns-clause-most c =
    let sums = c.args.sums in
    let six : length sums ≡ window_slots = search rules in
    let total : c.sum.result ≡ list.sum sums = sum_from_yields_List c.iter.result _ c.sum.ensures.ran (YieldsList-from_slice sums (cc)) in
    omega (arith, total, sum_bound _ sums c.requires)
