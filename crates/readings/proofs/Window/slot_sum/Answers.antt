-- `slot_sum` meets its contract. A reading fits 32 bits, so that four fit 64. Assumes nothing.
use mathlib.Core.List.{map}
use mathlib.Core.Path.{◌∙◌}
use Prim.Native.Nat.{ℕ, ◌+◌, ◌<◌, ◌≤◌, ◌^◌, min}
use native.Mathlib.Omega.{arith}
use borrow.Author.Rules.{rules}
use Rattle.std.proofs.lemmas.Grind.{get_or_default_zero}
use Rattle.std.proofs.lemmas.Iterator.{YieldsList-from_map, YieldsList-from_slice}
use Rattle.std.proofs.lemmas.Iterator.Adapters.{serves_from_places}
use Rattle.std.proofs.lemmas.Iterator.Consumers.{sum_from_yields_List, fits_from_yields_list}
use Rattle.numbers.specs.Slots.{days_back}
use Rattle.numbers.proofs.Chains.{sum_is}
use Rattle.readings.specs.Readings.{reading}
use Rattle.readings.proofs.Sums.{days_within}
use Rattle.readings.proofs.Window.slot_sum.Goals as goal

pub sum-requires-clause-can : goal.sum-requires-clause-can
sum-requires-clause-can c =
    let days = c.args.days in (
      tt,
      serves_from_places (YieldsList-from_slice days.back (cc)) (λ x q k. search rules)
          (λ x k l e. let near : x.now ≤ days_back = omega (arith, get_or_default_zero days.back k x.now l, days.near k) in search rules),
    )

pub sum-requires-clause-fits : goal.sum-requires-clause-fits
sum-requires-clause-fits c =
    let w = c.args.self.now in
    let days = c.args.days in
    let h = λ (day : ℕ). min (reading w.readings.now day (w.slot + c.args.j)) 4294967295 in
    fits_from_yields_list c.map.result _
    (YieldsList-from_map _ h (YieldsList-from_slice days.back (cc)) c.map.ensures.closure (λ x r q k. let e : r < 2 ^ 32 = search rules in search rules))
    (omega (arith, sum_is (map h days.back), days_within h 4294967295 days.back (λ i l. omega arith)))

pub returns : goal.returns
returns c =
    let w = c.args.self.now in
    let h = λ (day : ℕ). reading w.readings.now day (w.slot + c.args.j) in
    sum_from_yields_List c.map.result _ c.sum.ensures.ran
    (YieldsList-from_map _ h (YieldsList-from_slice c.args.days.back (cc)) c.map.ensures.closure (λ x r q k. search rules))
    ∙ sum_is (map h c.args.days.back)
