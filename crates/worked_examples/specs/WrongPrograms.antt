-- PROGRAMS THAT THE DEMANDS SHUT OUT (document 01, 'To the testers'), with definition and code wrong together: the program with something
-- else than the results in the totals, beside the statements that it does not meet.
use Rattle.std.specs.Prelude.{◌≡◌, cond, List, [], ◌∷◌, reverse, ℕ, eqb, ℤ, pos, replicate}
use Rattle.numbers.specs.Slots.{no_days}
use Rattle.heads.specs.Heads.{head_of}
use Rattle.points.specs.Points.{number_of, index_told}
use Rattle.ledger.specs.States.{taken}
use Rattle.ledger.specs.Operations.{open_of, adding_refusal, results_of, days_told_of, close_of}
use Rattle.calls.specs.Calls.{Call, adding, closing, Reply, accepted, closed, reply_of, program, points_taken}
use Rattle.calls.specs.Totals.{Holds}
use Rattle.ledger.specs.declared.State.{State}
use Rattle.ledger.specs.Operations.{Added}
use Rattle.account.specs.Demand3.{Demand3Of}
use Rattle.worked_examples.specs.Sequences.{two_points, generator_of}

-- what goes into the totals, from a state and a point's results
abbrev pub Summing : Type 0
Summing = State → List ℤ → List ℤ

-- adding, but for what goes into the totals
unfoldable pub add_by : Summing → State → ℕ → List ℕ → ℕ → Added
add_by summing state tag value places =
    let refusal = adding_refusal state tag value places in
    let next = taken state (summing state (results_of state tag value)) (number_of value) in
    cond (eqb refusal 0)
    (record { refusal = 0; state = next; days = days_told_of state tag value; index = 0 })
    (record { refusal = refusal; state = state; days = no_days; index = index_told refusal tag value })

unfoldable pub replies_by : Summing → State → List Call → List Reply
replies_by summing state [] = []
replies_by summing state (adding tag value places ∷ calls) =
    let added = add_by summing state tag value places in
    reply_of added.refusal accepted ∷ replies_by summing added.state calls
replies_by summing state (closing ∷ calls) =
    reply_of (close_of state).refusal (closed (close_of state).figures) ∷ replies_by summing state calls

unfoldable pub program_by : Summing → List ℕ → List ℕ → List Call → List Reply
program_by summing head calendar calls =
    reply_of (open_of head calendar).refusal accepted ∷ replies_by summing (open_of head calendar).state calls

unfoldable pub state_by : Summing → State → List Call → State
state_by summing state [] = state
state_by summing state (adding tag value places ∷ calls) = state_by summing (add_by summing state tag value places).state calls
state_by summing state (closing ∷ calls) = state_by summing state calls

-- ---- what the programs put into the totals

abbrev pub all_results : Summing
all_results state found = found

-- 'One that settles the first point and merely counts the others'
abbrev pub first_results : Summing
first_results state found = cond (eqb state.points 0) found (replicate 6 (pos 0))

-- one that adds up slot by slot, but not to the same slots
abbrev pub turned_results : Summing
turned_results state found = reverse found

-- ---- two generators, each with six readings that differ, and a closing

abbrev pub six_readings : List ℕ
six_readings = 100_000 ∷ 200_000 ∷ 300_000 ∷ 400_000 ∷ 500_000 ∷ 600_000 ∷ []

abbrev pub two_generators : List Call
two_generators = adding 4 (generator_of 49 0 six_readings) 6 ∷ adding 4 (generator_of 50 0 six_readings) 6 ∷ closing ∷ []

-- the ledger's totals from the readings, of a program on these calls
abbrev pub Totals : Summing → Type 0
Totals summing =
    let marks : List ℕ = replicate 30 0 in
    let state = (open_of two_points marks).state in
    Holds (head_of two_points) marks (points_taken two_generators (replies_by summing state two_generators)) (state_by summing state two_generators)

pub record ShutOut : Type 0 where
  -- with the results themselves it is the program
  pub same : (head calendar : List ℕ) (calls : List Call) → program_by all_results head calendar calls ≡ program head calendar calls
  pub all : Totals all_results
  pub first : Totals first_results → ⊥
  pub first3 : Demand3Of (program_by first_results) → ⊥
  pub turned : Totals turned_results → ⊥
