-- What a refusal tells. Assumes nothing.
use mathlib.Core.Path.{◌≡◌, refl, ap}
use native.Mathlib.Omega.{arith}
use Rattle.refusals.specs.declared.Refusal.{Refusal}
use Rattle.refusals.specs.declared.Refusal.TheVariants.{Lengths}
use Rattle.std.specs.Prelude.{Result, Ok, Err, IsOk, IsErrAnd}
use Rattle.refusals.specs.Told.{number_of, number_told}

-- none is told by 0, which is accepted
pub refused : (refusal : Refusal) → number_of refusal ≡ 0 → ⊥
refused Lengths e = omega arith
refused refusal e = omega arith

-- an answer that tells 0 is no refusal
pub is_accepted : {A : Type 0} (answer : Result A Refusal) → number_told answer ≡ 0 → IsOk answer
is_accepted (Ok x) e = refl
is_accepted (Err refusal) e = absurd (refused refusal e)

-- a refusal that `?` hands on
pub handed_on : {A : Type 0} (answer : Result A Refusal) (refusal : Refusal) → IsErrAnd answer (λ e. e ≡ refusal) → answer ≡ Err refusal
handed_on (Ok x) refusal e = absurd e
handed_on (Err r) refusal e = ap Err e
