-- The results of an accepted adding are six, each within the limit of a slot result. Assumes nothing.
use mathlib.Core.Path.{◌≡◌, sym, ◌∙◌}
use native.Mathlib.Omega.{arith}
use lib.ListN.{length}
use Rattle.integers.proofs.Sums.{sumℤ-below}
use Rattle.heads.specs.Limits.{most_result}
use Rattle.heads.proofs.Opening.{opens}
use Rattle.points.specs.Points.{kind_of}
use Rattle.results.proofs.Bounds.{six_results}
use Rattle.ledger.specs.Operations.{adding_refusal, results_of}
use Rattle.ledger.proofs.Sound.{add_refusal}
use Rattle.ledger.proofs.Taking.{result_small}
use Rattle.ledger.proofs.AddSteps.{accepted, places_good}
use Rattle.calls.specs.Within.{ResultsWithin}

pub results_within : ResultsWithin
results_within state tag value places e =
    let z : adding_refusal state tag value (length places) ≡ 0 = sym (add_refusal state tag value (length places)) ∙ e in
    let a = accepted state tag value (length places) z in
    let six = six_results state.head state.marks (kind_of tag) value a.given.known in
    let small = result_small a.given state.marks (opens state.head state.marks a.sound.content) in
    rw (places_good state tag value places z)
    record { six = six; each = λ i. omega (arith, small i); together = omega (arith, six, sumℤ-below most_result (results_of state tag value) small) }
