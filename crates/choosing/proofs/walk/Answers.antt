use mathlib.Core.Path.{◌≡◌, refl, sym, ◌∙◌}
use native.Mathlib.Omega.{arith}
use borrow.Author.Rules.{rules}
use borrow.Author.Tests.{eqb-true, eqb-false}
use lib.ListN.{length}
use Rattle.choosing.specs.Choosing.{round_days}
use Rattle.choosing.proofs.Walking.{begin, taken, passed, ran_out, stopped, went_on}
use Rattle.choosing.proofs.walk.Goals as goal
use Rattle.choosing.proofs.walk.Goals.{then-eligible-k, else-eligible-k}

pub walk-init : goal.walk-init
walk-init c = (search rules, rw c.new-days.ensures (omega arith), begin _ _ _ c.new-days.ensures)

pub loop-eligible-preserved : goal.loop-eligible-preserved
loop-eligible-preserved c =
    let here = c.loop-eligible.invariant.2 in
    let room : length c.loop-eligible.days.items ≡ round_days → ⊥
    = eqb-false _ _ (sym c.is_full.ensures.value ∙ c.loop-eligible-test.true)
    in
    elim c.if-eligible-k.branch [
      | then-eligible-k w ↦
          let more = w.push.ensures in
          (omega arith, rw w.days-is (omega (arith, more.len)), rw w.days-is (taken here _ _ more.items refl refl (omega arith) (omega (arith, room, here.few)) w.if-eligible-k.true))
      | else-eligible-k w ↦
          (omega arith, rw w.days-is (omega arith), rw w.days-is (passed here (omega arith) w.if-eligible-k.false))
    ]

pub walk-preserved : goal.walk-preserved
walk-preserved c =
    let here = c.loop-eligible.invariant.2 in
    let full : length c.loop-eligible.days.items ≡ round_days = eqb-true _ _ (sym c.is_full.ensures.value ∙ c.loop-eligible-test.false) in
    let fewer : length c.keep.new.days.items ≡ round_days → ⊥ = eqb-false _ _ (sym c.is_full-none_dropped.ensures.value ∙ c.if-none_dropped.false) in
    let next = went_on here full (c.keep.ensures _ _ (record { backs = refl; sums = here.of })) fewer in
    (omega arith, omega (arith, next.few, fewer), next)

pub returns-then-k-ge-DAYS_BACK : goal.returns-then-k-ge-DAYS_BACK
returns-then-k-ge-DAYS_BACK c =
    let here = c.loop-eligible.invariant.2 in
    let room : length c.loop-eligible.days.items ≡ round_days → ⊥
    = eqb-false _ _ (sym c.is_full.ensures.value ∙ c.loop-eligible-test.true)
    in
    ran_out here (omega arith) (omega (arith, room, here.few))

pub returns-then-none_dropped : goal.returns-then-none_dropped
returns-then-none_dropped c =
    let here = c.loop-eligible.invariant.2 in
    let full : length c.loop-eligible.days.items ≡ round_days = eqb-true _ _ (sym c.is_full.ensures.value ∙ c.loop-eligible-test.false) in
    stopped here full (c.keep.ensures _ _ (record { backs = refl; sums = here.of }))
    (eqb-true _ _ (sym c.is_full-none_dropped.ensures.value ∙ c.if-none_dropped.true))
