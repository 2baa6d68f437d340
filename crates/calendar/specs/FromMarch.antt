-- Years that begin with March, by which the code counts (change request 6). What a date's count and a month's length are stands in
-- `Dates`; the formula gives the same, as the statements below say.
use Rattle.std.specs.Prelude.{◌≡◌, true, cond, ℕ, ◌+◌, ◌*◌, ◌-◌, ◌/◌, ◌%◌, leb, eqb}
use Rattle.calendar.specs.Dates.{years_since, common_year, IsMonth, is_leap, days_in, is_date, day_count}

abbrev pub february : ℕ
february = 2

-- 'counted from March as month 0', so that January and February are months 10 and 11
abbrev pub month_from_march : ℕ → ℕ
month_from_march month = (month + 9) % 12

-- 'with January and February belonging to the year before'
abbrev pub year_from_march : ℕ → ℕ → ℕ
year_from_march year month = year - cond (leb month february) 1 0

-- 'The days before a month', which is counted from March: '(153 × month + 2) ÷ 5, whole part'
abbrev pub days_from_march : ℕ → ℕ
days_from_march from_march = (153 * from_march + 2) / 5

-- the count of 2000-03-01, before which January 2000 has 31 days and February 29
abbrev pub march_2000 : ℕ
march_2000 = 60

-- the count of a date, from 2000-03-01 on: years of 365 days, each fourth of which ends with a 29th of February, the days before the
-- month, the days before the day
abbrev pub count_from_march : ℕ → ℕ → ℕ → ℕ
count_from_march year month day =
    let years = years_since (year_from_march year month) in
    march_2000 + common_year * years + years / 4 + days_from_march (month_from_march month) + (day - 1)

-- the days before the end of a month: it ends where the next one begins, and February, the last, with the year of 365 days, or of 366
-- where the year of that February is a leap year
abbrev pub end_from_march : ℕ → ℕ → ℕ
end_from_march year month =
    cond (eqb month february) (common_year + cond (is_leap year) 1 0) (days_from_march (month_from_march month + 1))

-- ---- statements

-- each date has the count that the formula gives
abbrev pub CountsFromMarch : Type 0
CountsFromMarch = (year month day : ℕ) → is_date year month day ≡ true → day_count year month day ≡ count_from_march year month day

-- each month has the days that the formula gives
abbrev pub LengthsFromMarch : Type 0
LengthsFromMarch = (year month : ℕ) → IsMonth month → days_from_march (month_from_march month) + days_in year month ≡ end_from_march year month
