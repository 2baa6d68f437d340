-- What a date tells of its year, month and day, and the bounds of its count. Assumes nothing.
use mathlib.Core.Path.{◌≡◌, refl}
use mathlib.Core.Bool.{Bool, true, false, cond, ◌&&◌, ◌||◌, and-eq-true_iff, and-false}
use mathlib.Core.List.{List, [], ◌∷◌}
use mathlib.Core.Logic.{inl, inr, ⊎_elim}
use Prim.Native.Nat.{ℕ, ◌+◌, ◌-◌, ◌≤◌, ◌%◌}
use native.Mathlib.Nat.{sub-add_cancel}
use native.Mathlib.Omega.{arith}
use lib.Dec.{leb, ltb, eqb, leb→le, eqb→eq}
use lib.ListN.{get_or, take}
use mir.Val.{has_key}
use mir.Facts.{or_yes}
use types.Run.{OneOf, hit}
use borrow.Author.Tests.{leb-true, eqb-true, ne_eqb}
use Rattle.numbers.specs.Lists.{sum}
use Rattle.calendar.specs.Dates.{first_year, last_year, first_day, last_day, common_year, IsMonth, is_leap, month_days, days_in, common_days_before, is_date, day_count}
use Rattle.numbers.proofs.Tables.{entry_at}

-- ---- months

module _ (month : ℕ) (m : IsMonth month) where
  -- a common year's days up to the end of a month
  pub month_end : common_days_before month + get_or month_days (month - 1) 0 ≤ common_year
  unfolding sum
  month_end = leb→le _ _ (entry_at (λ k days. leb (sum (take k month_days) + days) common_year) month_days tt (month - 1) (omega arith))

  -- any other than February and those of thirty days
  pub thirty_one : (year : ℕ) → (month ≡ 2 → ⊥) → (OneOf (4 ∷ 6 ∷ 9 ∷ 11 ∷ []) month → ⊥) → days_in year month ≡ 31
  thirty_one year february thirty =
      let days = get_or month_days (month - 1) 0 in
      let shorter : List ℕ = 2 ∷ 4 ∷ 6 ∷ 9 ∷ 11 ∷ [] in
      let t = entry_at (λ k days. eqb days 31 || has_key shorter (k + 1)) month_days tt (month - 1) (omega arith) in
      ⊎_elim (λ e. simp (eqb→eq days 31 e, ne_eqb month 2 february, and-false))
      (λ k. absurd (⊎_elim february thirty (hit shorter month (rw (sub-add_cancel m.first) at k))))
      (or_yes (eqb days 31) (has_key shorter (month - 1 + 1)) t)

pub thirty : (year month : ℕ) → OneOf (4 ∷ 6 ∷ 9 ∷ 11 ∷ []) month → days_in year month ≡ 30
thirty year month (inl e) = rw (e, and-false)
thirty year month (inr (inl e)) = rw (e, and-false)
thirty year month (inr (inr (inl e))) = rw (e, and-false)
thirty year month (inr (inr (inr e))) = rw (e, and-false)

-- ---- dates

-- the parts of a date
pub record Parts (year month day : ℕ) : Type 0 where
  pub first_year_lem : first_year ≤ year
  pub last_year_lem : year ≤ last_year
  pub is_month : IsMonth month
  pub first_day_lem : 1 ≤ day
  pub last_day_lem : day ≤ days_in year month

pub one_most : (b : Bool) → cond b 1 0 ≤ 1
one_most true = omega arith
one_most false = omega arith

module _ (year month day : ℕ) where
  pub parts : is_date year month day ≡ true → Parts year month day
  unfolding is_date
  parts e =
      let a = leb first_year year in
      let b = a && leb year last_year in
      let c = b && leb 1 month in
      let d = c && leb month 12 in
      let f = d && leb 1 day in
      let day_last = (and-eq-true_iff f (leb day (days_in year month))).0 e in
      let day_first = (and-eq-true_iff d (leb 1 day)).0 day_last.0 in
      let month_last = (and-eq-true_iff c (leb month 12)).0 day_first.0 in
      let month_first = (and-eq-true_iff b (leb 1 month)).0 month_last.0 in
      let years = (and-eq-true_iff a (leb year last_year)).0 month_first.0 in
      record {
        first_year_lem = leb-true _ _ years.0;
        last_year_lem = leb-true _ _ years.1;
        is_month = record { first = leb-true _ _ month_first.1; last = leb-true _ _ month_last.1 };
        first_day_lem = leb-true _ _ day_first.1;
        last_day_lem = leb-true _ _ day_last.1;
      }

  no_date : (Parts year month day → ⊥) → (b : Bool) → is_date year month day ≡ b → is_date year month day ≡ false
  no_date f true e = absurd (f (parts e))
  no_date f false e = e

  pub not_date : (Parts year month day → ⊥) → is_date year month day ≡ false
  not_date f = no_date f (is_date year month day) refl

  -- 2020-01-01 is day 7305
  pub count_least : is_date year month day ≡ true → first_day ≤ day_count year month day
  unfolding day_count
  count_least e = let p = parts e in omega arith

  most : Parts year month day → (leap : Bool) → is_leap year ≡ leap → day_count year month day ≤ last_day
  unfolding day_count
  most p true q =
      omega (
        arith,
        eqb-true (year % 4) 0 q,
        month_end month p.is_month,
        one_most (is_leap year && ltb 2 month),
        one_most (is_leap year && eqb month 2),
      )
  most p false q =
      let h = rw q at p.last_day_lem in
      rw q (omega (arith, month_end month p.is_month))

  -- 2099-12-31 is day 36524
  pub count_most : is_date year month day ≡ true → day_count year month day ≤ last_day
  count_most e = most (parts e) (is_leap year) refl
