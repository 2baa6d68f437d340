-- What the exit of a `?` tells. Assumes nothing.
use Rattle.std.specs.Prelude.{◌≡◌, Result, IsErrAnd}
use Rattle.std.proofs.lemmas.Result.{err_from_is_err_and}
use Rattle.refusals.specs.Told.{number_of, number_told}
use Rattle.refusals.specs.declared.Refusal.{Refusal}
use Rattle.refusals.proofs.Refused.{refused}

-- the number of the refusal that ended the call
pub exit_told : {A : Type 0} (r : Result A Refusal) (refusal : Refusal) → IsErrAnd r (λ y. y ≡ refusal) → number_told r ≡ number_of refusal
exit_told r refusal h = let p = err_from_is_err_and r h in rw (p.1, p.2)

-- for `using` at a function that goes on by `?`
pub ruleset exits = (refused, exit_told)
