-- Classes by their numbers. Assumes nothing.
use mathlib.Core.Path.{◌≡◌, ◌∙◌}
use mathlib.Core.Bool.{true}
use Prim.Native.Nat.{ℕ}
use Rattle.std.specs.Prelude.{Result, Ok, IsOk, IfOk}
use Rattle.numbers.specs.Refusals.{first_told}
use Rattle.refusals.specs.declared.Refusal.{Refusal}
use Rattle.refusals.specs.Told.{number_told}
use Rattle.refusals.proofs.Refused.{is_accepted}
use Rattle.points.specs.declared.Class.{Class}
use Rattle.points.specs.Points.{is_class, class_row}
use Rattle.points.specs.Told.{class_number}

-- the answer for a number, as the conversion gives it
module _ (number : ℕ) (answer : Result Class Refusal) (gives : IfOk answer (λ class. class_number class ≡ number) × (number_told answer ≡ first_told (class_row number))) where
  pub is_one : is_class number ≡ true → IsOk answer
  is_one e = is_accepted answer (gives.1 ∙ simp e)

  pub numbered : {class : Class} → answer ≡ Ok class → class_number class ≡ number
  numbered e = rw e at gives.0
