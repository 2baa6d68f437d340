-- The wrong programs do not meet the statements, by computing. Assumes nothing.
use mathlib.Core.Path.{◌≡◌, refl, ap}
use mathlib.Core.List.{List, [], ◌∷◌}
use Prim.Native.Nat.{ℕ}
use native.Mathlib.Omega.{arith}
use lib.IntN.{pos, nat_abs}
use lib.ListN.{get_or, replicate}
use Rattle.numbers.specs.Lists.{run, sum, filter, any, gather, same}
use Rattle.integers.specs.Integers.{sum_ℤ}
use Rattle.numbers.specs.Words.{bytes_of}
use Rattle.numbers.specs.PointNumbers.{digits, is_number, below}
use Rattle.calendar.specs.Dates.{is_date, day_count}
use Rattle.readings.specs.Readings.{first_large}
use Rattle.heads.specs.Heads.{head_of, content_refusal, opening_refusal}
use Rattle.points.specs.Points.{Point}
use Rattle.results.specs.SlotResults.{quotients}
use Rattle.figures.specs.SlotTotals.{plus}
use Rattle.ledger.specs.States.{is_unsound, taken}
use Rattle.figures.specs.Figures.{figures_of}
use Rattle.ledger.specs.Operations.{open_of, point_refusal, adding_refusal, add_of, closing_refusal, close_of}
use Rattle.calls.specs.Calls.{Call, adding, closing, Reply, refused, accepted, closed, replies, program, points_taken}
use Rattle.ledger.specs.declared.State.{State}
use Rattle.account.specs.Account.{opening, Said, says_of, account}
use Rattle.account.specs.Demand3.{taken_before, rounded_total, both_refuse, both_accept, both_close, AgreeAll, end, next, Demand3Of}
use Rattle.heads.specs.declared.Head.{Head}
use Rattle.worked_examples.specs.Sequences.{two_points}
use Rattle.worked_examples.specs.WrongPrograms.{add_by, replies_by, program_by, state_by, all_results, first_results, turned_results, two_generators, Totals, ShutOut}

same_replies : (state : State) (calls : List Call) → replies_by all_results state calls ≡ replies state calls
unfolding add_by add_of replies_by replies
same_replies state [] = refl
same_replies state (adding tag value places ∷ calls) = rw (same_replies (add_of state tag value places).state calls)
same_replies state (closing ∷ calls) = rw (same_replies state calls)

same_program : (head calendar : List ℕ) (calls : List Call) → program_by all_results head calendar calls ≡ program head calendar calls
unfolding program_by program
same_program head calendar calls = rw (same_replies (open_of head calendar).state calls)

-- ---- totals from the readings

all_hold : Totals all_results
unfolding run sum filter any gather sum_ℤ bytes_of digits same is_number below is_date day_count first_large head_of content_refusal opening_refusal quotients is_unsound plus taken figures_of open_of point_refusal adding_refusal add_of closing_refusal close_of replies program opening says_of account add_by replies_by state_by points_taken
all_hold = record { same_head = refl; same_calendar = refl; counted = refl; last = refl; totals = refl }

first_fails : Totals first_results → ⊥
unfolding run sum filter any gather sum_ℤ bytes_of digits same is_number below is_date day_count first_large head_of content_refusal opening_refusal quotients is_unsound plus taken figures_of open_of point_refusal adding_refusal add_of closing_refusal close_of replies program opening says_of account add_by replies_by state_by points_taken
first_fails h = let e : ◌≡◌ {A = ℕ} 100_000 200_000 = ap (λ totals. nat_abs (get_or totals 0 (pos 0))) h.totals in omega arith

turned_fails : Totals turned_results → ⊥
unfolding run sum filter any gather sum_ℤ bytes_of digits same is_number below is_date day_count first_large head_of content_refusal opening_refusal quotients is_unsound plus taken figures_of open_of point_refusal adding_refusal add_of closing_refusal close_of replies program opening says_of account add_by replies_by state_by points_taken
turned_fails h = let e : ◌≡◌ {A = ℕ} 1_200_000 200_000 = ap (λ totals. nat_abs (get_or totals 0 (pos 0))) h.totals in omega arith

-- ---- demand 3

-- each total that is told is that of the points taken
abbrev TotalsTold : Head → List ℕ → List (List Point) → List Reply → Type 0
TotalsTold h marks [] replies = Unit {0}
TotalsTold h marks (points ∷ pointss) [] = Unit {0}
TotalsTold h marks (points ∷ pointss) (refused n ∷ replies) = TotalsTold h marks pointss replies
TotalsTold h marks (points ∷ pointss) (accepted ∷ replies) = TotalsTold h marks pointss replies
TotalsTold h marks (points ∷ pointss) (closed figures ∷ replies) = (figures.total ≡ rounded_total h marks points) × TotalsTold h marks pointss replies

totals_told : {h : Head} {marks : List ℕ} {pointss : List (List Point)} {replies : List Reply} {sayss : List Said}
    → AgreeAll h marks pointss replies sayss → TotalsTold h marks pointss replies
totals_told end = tt
totals_told (next both_refuse rest) = totals_told rest
totals_told (next both_accept rest) = totals_told rest
totals_told (next (both_close a) rest) = (a.total, totals_told rest)

first_fails_3 : Demand3Of (program_by first_results) → ⊥
unfolding run sum filter any gather sum_ℤ bytes_of digits same is_number below is_date day_count first_large head_of content_refusal opening_refusal quotients is_unsound plus taken figures_of open_of point_refusal adding_refusal add_of closing_refusal close_of replies program opening says_of account add_by replies_by program_by taken_before
first_fails_3 demand =
    let e : ◌≡◌ {A = ℕ} 2_100_000 4_200_000 = ap nat_abs (totals_told (demand two_points (replicate 30 0) two_generators)).0 in
    omega arith

pub shut_out : ShutOut
shut_out = record { same = same_program; all = all_hold; first = first_fails; first3 = first_fails_3; turned = turned_fails }
