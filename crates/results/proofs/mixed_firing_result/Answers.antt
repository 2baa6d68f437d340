-- Not even all of both readings leaves the machine's range.
use mathlib.Core.Path.{ap, ◌∙◌}
use Prim.Native.Nat.{ℕ, ◌+◌, ◌*◌, ◌-◌, ◌≤◌}
use native.Mathlib.Omega.{arith}
use lib.IntN.{ℤ}
use mir.Facts.{to_z_pos}
use mir.Syntax.{w64}
use Rattle.integers.specs.Integers.{floor_div}
use Rattle.integers.proofs.Machine.{told}
use Rattle.results.proofs.Bounds.{share_most}
use Rattle.results.proofs.mixed_firing_result.Goals as goal

counted_most : (outside inside share : ℕ) → share ≤ 1_000 → (outside + inside) * (1_000 - share) ≤ (outside + inside) * 1_000
counted_most outside inside share h = (share_most (outside + inside) share h).1

pub returns : goal.returns
returns c =
    told w64 c.floor_div.type_inv
    (c.floor_div.ensures
    ∙ rw (c.from.ensures, c.from-2.ensures, c.from-3.ensures)
    (ap (λ (z : ℤ). floor_div z 1_000) (to_z_pos w64 (omega (arith, counted_most c.args.outside c.args.inside c.args.share c.requires)))))

pub overflow_mul-counted : goal.overflow_mul-counted
overflow_mul-counted c =
    rw (c.from.ensures, c.from-2.ensures, c.from-3.ensures) (omega (arith, counted_most c.args.outside c.args.inside c.args.share c.requires))

pub overflow_cast-counted : goal.overflow_cast-counted
overflow_cast-counted c =
    rw (c.from.ensures, c.from-2.ensures, c.from-3.ensures) (omega (arith, counted_most c.args.outside c.args.inside c.args.share c.requires))
