-- The formula over months counted from March gives the calendar: proved once over the twelve months, which antt computes, and for every
-- year by arithmetic. Assumes nothing.
use mathlib.Core.Path.{◌≡◌, refl}
use mathlib.Core.Bool.{Bool, true, false, cond}
use Prim.Native.Nat.{ℕ, zero, suc, ◌+◌, ◌%◌}
use native.Mathlib.Omega.{arith}
use lib.Dec.{T, leb, eqb, eqb→eq}
use borrow.Author.Tests.{eqb-true, eqb-false, leb-true, leb-false, le-ltb, lt-ltb}
use Rattle.numbers.specs.Lists.{sum}
use Rattle.calendar.specs.Dates.{common_year, IsMonth, is_leap, month_days, days_in, common_days_before, day_count}
use Rattle.calendar.specs.FromMarch.{february, month_from_march, days_from_march, count_from_march, end_from_march, CountsFromMarch, LengthsFromMarch}
use Rattle.numbers.proofs.Tables.{entries, entry_at}
use Rattle.calendar.proofs.Dates.{Parts, parts}

-- a test of each of the twelve months
each_month : (test : ℕ → Bool) → T (entries (λ k days. test (suc k)) 0 month_days) → (month : ℕ) → IsMonth month → T (test month)
each_month test all zero m = absurd (omega (arith, m.first))
each_month test all (suc k) m = entry_at (λ k days. test (suc k)) month_days all k (omega (arith, m.last))

-- the days before a month, from March and from January on: 59 days lie between, and before January and February a common year more
months : (month : ℕ) → IsMonth month
    → days_from_march (month_from_march month) + 59 ≡ common_days_before month + cond (leb month february) common_year 0
unfolding sum
months month m =
    eqb→eq _ _ (each_month (λ k. eqb (days_from_march (month_from_march k) + 59) (common_days_before k + cond (leb k february) common_year 0)) tt month m)

counted : (year month day : ℕ) → Parts year month day → (early leap : Bool) → leb month february ≡ early → is_leap year ≡ leap
    → day_count year month day ≡ count_from_march year month day
unfolding day_count
counted year month day p true true e f =
    simp (e, f, le-ltb 2 month (leb-true month 2 e)) (omega (arith, rw e at (months month p.is_month), eqb-true (year % 4) 0 f))
counted year month day p true false e f =
    simp (e, f) (omega (arith, rw e at (months month p.is_month)))
counted year month day p false true e f =
    simp (e, f, lt-ltb 2 month (leb-false month 2 e)) (omega (arith, rw e at (months month p.is_month), eqb-true (year % 4) 0 f))
counted year month day p false false e f =
    simp (e, f) (grind (arith, rw e at (months month p.is_month), eqb-false (year % 4) 0 f))

pub counts_from_march : CountsFromMarch
counts_from_march year month day e = counted year month day (parts year month day e) (leb month february) (is_leap year) refl refl

abbrev ends : ℕ → ℕ → Bool
ends year month = eqb (days_from_march (month_from_march month) + days_in year month) (end_from_march year month)

-- each leap year has the months of 2020, each other year those of 2021
lengths : (leap : Bool) (year month : ℕ) → IsMonth month → is_leap year ≡ leap
    → days_from_march (month_from_march month) + days_in year month ≡ end_from_march year month
lengths true year month m e = rw e (eqb→eq _ _ (each_month (ends 2020) tt month m))
lengths false year month m e = rw e (eqb→eq _ _ (each_month (ends 2021) tt month m))

pub lengths_from_march : LengthsFromMarch
lengths_from_march year month m = lengths (is_leap year) year month m refl
