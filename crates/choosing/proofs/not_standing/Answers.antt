-- `not_standing` meets its contract. Assumes nothing.
use mathlib.Core.Path.{refl, sym, ◌∙◌}
use native.Mathlib.Omega.{arith}
use Rattle.choosing.proofs.Leaving.{left, stays, passes, all_left}
use Rattle.choosing.proofs.not_standing.Goals as goal
use Rattle.choosing.proofs.not_standing.Goals.{then-eligible-k+then-not-is_in_hand, else-eligible-k, else-eligible-k-via-then-eligible-k+else-not-is_in_hand, else-eligible-k-via-else-eligible-k}

pub loop-k-preserved : goal.loop-k-preserved
loop-k-preserved c =
    let up = c.loop-k.invariant in
    elim c.if-eligible-k.branch [
      | then-eligible-k+then-not-is_in_hand w ↦
          rw w.dropped-is (left up _ _ w.push.ensures.items refl refl (omega arith) w.if-eligible-k.true (sym w.is_in_hand.ensures ∙ w.if-not-is_in_hand.true))
      | else-eligible-k w ↦ rw w.dropped-is (elim w.else-eligible-k.branch [
        | else-eligible-k-via-then-eligible-k+else-not-is_in_hand v ↦
            stays up (omega arith) v.if-eligible-k.true (sym v.is_in_hand.ensures ∙ v.if-not-is_in_hand.false)
        | else-eligible-k-via-else-eligible-k v ↦ passes up (omega arith) v.if-eligible-k.false
      ])
    ]

pub returns : goal.returns
returns c = λ stand hand. all_left c.loop-k.invariant (omega arith) hand
