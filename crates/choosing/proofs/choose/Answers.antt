-- `choose` meets its contract. Assumes nothing.
use mathlib.Core.Bool.{Bool}
use mathlib.Core.List.{List, map}
use mathlib.Core.Path.{◌≡◌, ap, ◌∙◌}
use Prim.Native.Nat.{ℕ, ◌≤◌}
use native.Mathlib.Omega.{arith}
use borrow.Author.Rules.{rules}
use borrow.Author.Tests.{lt-ltb}
use lib.ListN.{length}
use lib.Seq.{take_all}
use Rattle.std.specs.Array.{IsFirstChunk}
use Rattle.numbers.specs.Slots.{days_back}
use Rattle.numbers.proofs.Chains.{array_map_is}
use Rattle.calendar.specs.Eligible.{of_day}
use Rattle.choosing.specs.Choosing.{with_returned, used, chosen}
use Rattle.choosing.specs.Days.{days_from, Rising, InHand}
use Rattle.choosing.specs.declared.candidates.Candidate.{Candidate}
use Rattle.choosing.proofs.Flags.{flags_rising}
use Rattle.choosing.proofs.InHand.{as_many, no_day}
use Rattle.choosing.proofs.Lowest.{chosen_few}
use Rattle.choosing.proofs.Rising.{some_rising, rising_far}
use Rattle.choosing.proofs.choose.Goals as goal

-- the days in hand in the end are those chosen, at most four, and none farther than thirty
in_hand : (windows : List ℕ) (eligible : List Bool) {candidates : List Candidate} → length eligible ≤ days_back
    → InHand (of_day windows) (used (of_day windows) (with_returned (of_day windows) (days_from 1 eligible))) candidates
    → InHand (of_day windows) (chosen (of_day windows) (days_from 1 eligible)) candidates × (length candidates ≤ 4)
    × Rising 0 days_back (chosen (of_day windows) (days_from 1 eligible))
unfolding chosen
in_hand windows eligible size hand =
    let rising = flags_rising {n = days_back} eligible size in
    let few = chosen_few (of_day windows) rising in
    (hand, omega (arith, few.0, as_many hand), some_rising few.1 rising)

-- the first four of them, where there are four
four_are : {w : ℕ → ℕ} {days backs : List ℕ} {candidates four : List Candidate} → InHand w days candidates → length candidates ≤ 4
    → IsFirstChunk candidates four 4 → (length four ≡ 4 → backs ≡ map (λ day. day.back) four) → backs ≡ days
four_are {candidates = candidates} hand few chunk same =
    let all = chunk.same ∙ take_all 4 candidates few in
    same (omega (arith, ap (length {A = Candidate}) all, chunk.enough)) ∙ ap (map (λ (day : Candidate). day.back)) all ∙ hand.backs

pub returns-in_err-four : goal.returns-in_err-four
returns-in_err-four c =
    let (hand, few, rising) = in_hand c.args.sums.now c.args.eligible (omega arith) (c.drop_lowest_of_five.ensures _ _ (c.give_back.ensures c.walk-days.ensures)) in
    rw c.from_residual.ensures (lt-ltb _ _ (omega (arith, as_many hand, c.in_err-four.ensures.cases, ap (length {A = Candidate}) c.deref.ensures.0)))

pub invariant_of-result : goal.invariant_of-result
invariant_of-result c =
    let (hand, few, rising) = in_hand c.args.sums.now c.args.eligible (omega arith) (c.drop_lowest_of_five.ensures _ _ (c.give_back.ensures c.walk-days.ensures)) in
    let chunk = rw c.deref.ensures.0 at c.in_ok-four.ensures.cases in
    let are = four_are hand few chunk (array_map_is _ (λ (day : Candidate). day.back) 4 no_day (λ p x y q k. search rules) c.map.ensures.items) in
    record { near = λ i. rw are (rising_far i rising) }

pub returns : goal.returns
returns c =
    let (hand, few, rising) = in_hand c.args.sums.now c.args.eligible (omega arith) (c.drop_lowest_of_five.ensures _ _ (c.give_back.ensures c.walk-days.ensures)) in
    let chunk = rw c.deref.ensures.0 at c.in_ok-four.ensures.cases in
    four_are hand few chunk (array_map_is _ (λ (day : Candidate). day.back) 4 no_day (λ p x y q k. search rules) c.map.ensures.items)
