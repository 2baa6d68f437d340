-- DEMAND 3, one claim about every sequence of calls on one test.
use Rattle.std.specs.Prelude.{◌≡◌, ◌↔◌, Bool, cond, not, ◌&&◌, ◌||◌, List, [], ◌∷◌, ◌++◌, map, ℕ, ◌+◌, ◌*◌, ◌<◌, T, ℤ, pos, length}
use Rattle.std.proofs.Math.Option.{Option, none, some}
use Rattle.std.specs.Int.Signed.{le_z}
use Rattle.numbers.specs.Lists.{any, gather}
use Rattle.integers.specs.Integers.{floor_div, divides, sum_ℤ}
use Rattle.heads.specs.Heads.{head_of}
use Rattle.points.specs.Points.{Point, Kind, consumer, generator, mixed_firing, unknown, kind_of}
use Rattle.results.specs.SlotResults.{Quotient, quotients, rounded}
use Rattle.account.specs.Account.{Account, opening, takes, after, Said, parts_of_kilowatt, parts_of_watt, parts_of_wh, account}
use Rattle.heads.specs.declared.Head.{Head}
use Rattle.figures.specs.declared.Figures.{Figures}
use Rattle.calls.specs.Calls.{Call, adding, closing, Reply, refused, accepted, closed, program}

-- ---- the points that the account took, before each call

abbrev pub took_by : Account → Call → List Point
took_by a (adding tag value places) = cond (takes a tag value places) (record { tag = tag; value = value } ∷ []) []
took_by a closing = []

unfoldable pub taken_before : Account → List Point → List Call → List (List Point)
taken_before a points [] = []
taken_before a points (call ∷ calls) = points ∷ taken_before (after a call) (points ++ took_by a call) calls

abbrev pub taken_all : Option Account → List Call → List (List Point)
taken_all none calls = [] ∷ map (λ call. []) calls
taken_all (some a) calls = [] ∷ taken_before a [] calls

-- ---- the divisions

-- 'the six of each consumer', and CR 1: 'counts this division too', the six of each mixed-firing plant; a generator has none
abbrev pub divisions_by : Head → List ℕ → Kind → List ℕ → List Quotient
divisions_by h marks consumer value = quotients h marks consumer value
divisions_by h marks generator value = []
divisions_by h marks mixed_firing value = quotients h marks mixed_firing value
divisions_by h marks unknown value = []

abbrev pub divisions : Head → List ℕ → List Point → List Quotient
divisions h marks points = gather (λ p. divisions_by h marks (kind_of p.tag) p.value) points

abbrev pub all_quotients : Head → List ℕ → List Point → List Quotient
all_quotients h marks points = gather (λ p. quotients h marks (kind_of p.tag) p.value) points

-- 'the total of those points' rounded results'
abbrev pub rounded_total : Head → List ℕ → List Point → ℤ
rounded_total h marks points = sum_ℤ (map rounded (all_quotients h marks points))

-- no division on the way left a remainder
unfoldable pub no_remainder : Head → List ℕ → List Point → Bool
no_remainder h marks points =
    not (any (λ q. not (divides q.den q.num)) (divisions h marks points)) && divides 3_000 (rounded_total h marks points)

-- ---- the comparison

-- each divisor goes into the parts of a Wh: the account rounds nothing
unfoldable pub keeps_fractions : Head → List ℕ → List Point → Bool
keeps_fractions h marks points = not (any (λ q. not (divides q.den (pos (parts_of_wh h)))) (all_quotients h marks points))

-- 'the settled capacity reaches the contract or no division on the way left a remainder'
abbrev pub no_loss : Head → List ℕ → List Point → Figures → Bool
no_loss h marks points figures = le_z (pos h.contract) figures.settled || no_remainder h marks points

-- An accepted closing: the printed shortfall in whole kW, times the parts of a kW, beside the exact one in parts.
pub record Accurate (h : Head) (marks : List ℕ) (points : List Point) (figures : Figures) (exact : ℕ) : Type 0 where
  pub counted : figures.points ≡ length points
  -- 'all results of all points and slots', and 'total ÷ 3,000, rounded toward minus infinity'
  pub total : figures.total ≡ rounded_total h marks points
  pub settled : figures.settled ≡ floor_div (rounded_total h marks points) 3_000
  pub unrounded : T (keeps_fractions h marks points)
  pub equal : (figures.shortfall * parts_of_kilowatt h ≡ exact) ↔ T (no_loss h marks points figures)
  -- 'At every other accepted closing the printed one is the greater, by less than one kW plus two watts for each point accepted'
  pub otherwise : T (not (no_loss h marks points figures))
      → (exact < figures.shortfall * parts_of_kilowatt h)
      × (figures.shortfall * parts_of_kilowatt h < exact + (parts_of_kilowatt h + 2 * parts_of_watt h * length points))

-- accepted by both or refused by both; at an accepted closing the two shortfalls are as they should be
pub data Agree (h : Head) (marks : List ℕ) (points : List Point) : Reply → Said → Type 0 where
  both_refuse : {n : ℕ} → Agree h marks points (refused n) Said.refused
  both_accept : Agree h marks points accepted Said.accepted
  both_close : {figures : Figures} {exact : ℕ} → Accurate h marks points figures exact → Agree h marks points (closed figures) (Said.closed exact)

-- at every place of the sequence
pub data AgreeAll (h : Head) (marks : List ℕ) : List (List Point) → List Reply → List Said → Type 0 where
  end : AgreeAll h marks [] [] []
  next : {points : List Point} {reply : Reply} {says : Said} {pointss : List (List Point)} {replies : List Reply} {sayss : List Said}
      → Agree h marks points reply says
      → AgreeAll h marks pointss replies sayss
      → AgreeAll h marks (points ∷ pointss) (reply ∷ replies) (says ∷ sayss)

-- of a program, by what it replies to an opening and the calls after it
abbrev pub Demand3Of : (List ℕ → List ℕ → List Call → List Reply) → Type 0
Demand3Of program = (head calendar : List ℕ) (calls : List Call)
    → AgreeAll (head_of head) calendar (taken_all (opening head calendar) calls) (program head calendar calls) (account head calendar calls)

abbrev pub Demand3 : Type 0
Demand3 = Demand3Of program
