-- The exact account of demand 3 (document 01, 'Closing figures'). It is fed what the calls are given except the state, in their order, and
-- nothing of the program's answers.
use Rattle.std.specs.Prelude.{Bool, cond, List, [], ◌∷◌, map, ℕ, ◌+◌, ◌*◌, ◌-◌, ◌/◌, ltb, eqb, ℤ, pos, ◌+ℤ◌, ◌-ℤ◌, ◌*ℤ◌, get_or, replicate}
use Rattle.std.proofs.Math.Option.{Option, none, some}
use Rattle.numbers.specs.PointNumbers.{number_length, digit0}
use Rattle.integers.specs.Integers.{or_zero, sum_ℤ}
use Rattle.heads.specs.Heads.{head_of, opening_refusal}
use Rattle.points.specs.Points.{kind_of, number_of}
use Rattle.results.specs.SlotResults.{Quotient, quotients}
use Rattle.ledger.specs.Operations.{point_refusal}
use Rattle.calls.specs.Calls.{Call, adding, closing}
use Rattle.heads.specs.declared.Head.{Head}

-- 'It holds head, calendar, points taken, last number and an exact sum.'
pub record Account : Type 0 where
  pub head : Head
  pub marks : List ℕ
  pub points : ℕ
  pub last : List ℕ
  pub sum : ℤ

-- The exact figures are counted in equal parts of a kW: '72,000 × the product of the three (10,000 − loss) parts to one kW', and since CR 1
-- '1,000 times as many', for every list.
abbrev pub product : Head → ℕ
product h = (10_000 - get_or h.losses 0 0) * (10_000 - get_or h.losses 1 0) * (10_000 - get_or h.losses 2 0)

abbrev pub parts_of_kilowatt : Head → ℕ
parts_of_kilowatt h = 72_000_000 * product h

-- a watt is a 1,000th of a kW, and a Wh of the total a 3,000th; neither division leaves a remainder
abbrev pub parts_of_watt : Head → ℕ
parts_of_watt h = parts_of_kilowatt h / 1_000

abbrev pub parts_of_wh : Head → ℕ
parts_of_wh h = parts_of_kilowatt h / 3_000

-- A slot result in parts. The divisor goes into the parts of a Wh, so that nothing is rounded: demand 3 says so of each.
abbrev pub exactly : Head → Quotient → ℤ
exactly h q = q.num *ℤ pos (parts_of_wh h / q.den)

-- 'the six slot results, on the days chosen as above, with no division rounded', together
abbrev pub exact_sum : Head → List ℕ → ℕ → List ℕ → ℤ
exact_sum h marks tag value = sum_ℤ (map (exactly h) (quotients h marks (kind_of tag) value))

-- 'Opening: where one of 1 to 8 fits, it is refused, and so is every later call. Otherwise points and sum are 0.'
unfoldable pub opening : List ℕ → List ℕ → Option Account
opening head calendar =
    cond (eqb (opening_refusal head calendar) 0)
    (some (record { head = head_of head; marks = calendar; points = 0; last = replicate number_length digit0; sum = pos 0 }))
    none

-- 'where a refusal of adding other than 9 fits what the account holds and is given, it is refused'
abbrev pub takes : Account → ℕ → List ℕ → ℕ → Bool
takes a tag value places = eqb (point_refusal a.head a.marks a.points a.last tag value places) 0

-- 'Otherwise the account adds the six slot results .., raises points by one and keeps the number.'
abbrev pub took : Account → ℕ → List ℕ → Account
took a tag value = record {
  head = a.head;
  marks = a.marks;
  points = a.points + 1;
  last = number_of value;
  sum = a.sum +ℤ exact_sum a.head a.marks tag value;
}

-- the account after a call; a refused adding and a closing change nothing
abbrev pub after : Account → Call → Account
after a (adding tag value places) = cond (takes a tag value places) (took a tag value) a
after a closing = a

-- 'the exact shortfall is contract − sum ÷ 3,000, unrounded, or 0 where that is negative', in parts
abbrev pub exact_shortfall : Account → ℕ
exact_shortfall a = or_zero (pos (a.head.contract * parts_of_kilowatt a.head) -ℤ a.sum)

-- what the account says of a call: of an accepted closing, the exact shortfall
pub data Said : Type 0 where
  refused : Said
  accepted : Said
  closed : ℕ → Said

abbrev pub said : Account → Call → Said
said a (adding tag value places) = cond (takes a tag value places) accepted refused
said a closing = cond (ltb a.points a.head.count) refused (closed (exact_shortfall a))

unfoldable pub says_of : Account → List Call → List Said
says_of a [] = []
says_of a (call ∷ calls) = said a call ∷ says_of (after a call) calls

-- after a refused opening
unfoldable pub all_refused : List Call → List Said
all_refused [] = []
all_refused (call ∷ calls) = refused ∷ all_refused calls

-- the opening and the calls after it
abbrev pub says_all : Option Account → List Call → List Said
says_all none calls = refused ∷ all_refused calls
says_all (some a) calls = accepted ∷ says_of a calls

unfoldable pub account : List ℕ → List ℕ → List Call → List Said
account head calendar calls = says_all (opening head calendar) calls
