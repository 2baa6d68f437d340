-- `window_sum` meets its contract. A reading fits 32 bits, so that six fit 64. Assumes nothing.
use mathlib.Core.Path.{refl, ◌∙◌}
use Prim.Native.Nat.{ℕ, ◌+◌, ◌<◌, ◌^◌, min}
use native.Mathlib.Omega.{arith}
use borrow.Author.Rules.{rules}
use Rattle.std.proofs.lemmas.Iterator.{YieldsList-from_map, YieldsList-from_range}
use Rattle.std.proofs.lemmas.Iterator.Consumers.{sum_from_yields_List, fits_from_yields_list}
use Rattle.readings.specs.Readings.{reading}
use Rattle.readings.proofs.Sums.{sum_mapped}
use Rattle.readings.proofs.Window.window_sum.Goals as goal

pub sum-requires-clause-fits : goal.sum-requires-clause-fits
sum-requires-clause-fits c =
    let w = c.args.self.now in
    let h = λ (j : ℕ). min (reading w.readings.now c.args.day (w.slot + j)) 4294967295 in
    fits_from_yields_list c.map.result _
    (YieldsList-from_map _ h (YieldsList-from_range 0 6 6 c.map.ensures.source refl) c.map.ensures.closure (λ x r q k. let e : r < 2 ^ 32 = search rules in search rules))
    (omega arith)

pub returns : goal.returns
returns c =
    let w = c.args.self.now in
    let h = λ (j : ℕ). reading w.readings.now c.args.day (w.slot + j) in
    sum_from_yields_List c.map.result _ c.sum.ensures.ran
    (YieldsList-from_map _ h (YieldsList-from_range 0 6 6 c.map.ensures.source refl) c.map.ensures.closure (λ x r q k. search rules))
    ∙ sum_mapped (reading w.readings.now c.args.day) w.slot 6
