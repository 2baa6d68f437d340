-- `calendar::day_count` meets its contract: the count by the formula is that of the calendar, which is bounded, so that no sum wraps.
-- Assumes nothing.
use mathlib.Core.Path.{sym}
use native.Mathlib.Omega.{arith}
use lib.Dec.{leb}
use Rattle.calendar.specs.FromMarch.{february}
use Rattle.calendar.proofs.Dates.{parts, one_most, count_least, count_most}
use Rattle.calendar.proofs.FromMarch.{counts_from_march}
use Rattle.calendar.proofs.day_count.Goals as goal

pub invariant_of-of_date : goal.invariant_of-of_date
invariant_of-of_date c = record { is_month = (parts _ _ _ c.requires).is_month }

pub year_from_march-requires : goal.year_from_march-requires
year_from_march-requires c = let p = parts _ _ _ c.requires in omega arith

pub overflow_sub-year_from_march : goal.overflow_sub-year_from_march
overflow_sub-year_from_march c =
    let p = parts _ _ _ c.requires in
    omega (arith, c.year_from_march.ensures, one_most (leb c.args.month february))

pub overflow_add-result-3 : goal.overflow_add-result-3
overflow_add-result-3 c =
    simp (c.days_from_march-before_month.ensures, c.from_march.ensures, c.from-years.ensures, c.year_from_march.ensures)
    (omega (arith, counts_from_march _ _ _ c.requires, count_most _ _ _ c.requires))

pub returns-clause-counted : goal.returns-clause-counted
returns-clause-counted c =
    simp (c.days_from_march-before_month.ensures, c.from_march.ensures, c.from-years.ensures, c.year_from_march.ensures, c.from.ensures)
    (sym (counts_from_march _ _ _ c.requires))

pub returns-clause-within : goal.returns-clause-within
returns-clause-within c = rw (returns-clause-counted c) (count_least _ _ _ c.requires, count_most _ _ _ c.requires)

pub overflow_sub-day : goal.overflow_sub-day
overflow_sub-day c = (parts _ _ _ c.requires).first_day_lem
