-- Dates (document 01, 'Days'). A day is its count of days from 2000-01-01, a Saturday, as 0.
use Rattle.std.specs.Prelude.{Bool, cond, ◌&&◌, List, [], ◌∷◌, ℕ, ◌+◌, ◌*◌, ◌-◌, ◌/◌, ◌%◌, ◌≤◌, leb, ltb, eqb, get_or, take}
use Rattle.numbers.specs.Lists.{sum}

-- 'Dates run from 2020-01-01 to 2099-12-31', which are days 7305 and 36524
abbrev pub first_year : ℕ
first_year = 2020

abbrev pub last_year : ℕ
last_year = 2099

abbrev pub first_day : ℕ
first_day = 7305

abbrev pub last_day : ℕ
last_day = 36524

-- 'counted in days from 2000-01-01'
abbrev pub years_since : ℕ → ℕ
years_since year = year - 2000

-- the days of a common year
abbrev pub common_year : ℕ
common_year = 365

-- one of the twelve months
pub record IsMonth (month : ℕ) : Type 0 where
  pub first : 1 ≤ month
  pub last : month ≤ 12

-- a leap year, from 2000 to 2099
abbrev pub is_leap : ℕ → Bool
is_leap year = eqb (year % 4) 0

-- the days of each month of a common year
abbrev pub month_days : List ℕ
month_days = 31 ∷ 28 ∷ 31 ∷ 30 ∷ 31 ∷ 30 ∷ 31 ∷ 31 ∷ 30 ∷ 31 ∷ 30 ∷ 31 ∷ []

-- the days of a month
abbrev pub days_in : ℕ → ℕ → ℕ
days_in year month = get_or month_days (month - 1) 0 + cond (is_leap year && eqb month 2) 1 0

-- 'The days before each month', in a common year
abbrev pub common_days_before : ℕ → ℕ
common_days_before month = sum (take (month - 1) month_days)

-- the days before a month, 'with one day more after February in a leap year'
abbrev pub days_before : ℕ → ℕ → ℕ
days_before year month = common_days_before month + cond (is_leap year && ltb 2 month) 1 0

-- the dates from 2020-01-01 to 2099-12-31
unfoldable pub is_date : ℕ → ℕ → ℕ → Bool
is_date year month day =
    leb first_year year && leb year last_year && leb 1 month && leb month 12 && leb 1 day && leb day (days_in year month)

-- the count of a date: whole years, of which each fourth from 2000 on is a leap year, whole months, days
unfoldable pub day_count : ℕ → ℕ → ℕ → ℕ
day_count year month day = common_year * years_since year + (years_since year + 3) / 4 + days_before year month + (day - 1)

-- 'The count's remainder by 7 gives the weekday: 0 Saturday, 1 Sunday.'
abbrev pub is_weekend : ℕ → Bool
is_weekend count = leb (count % 7) 1
