-- `calendar::is_date` meets its contract: the year, the month and the day. Assumes nothing.
use mathlib.Core.Path.{◌≡◌, sym, ◌∙◌}
use mathlib.Core.Bool.{Bool, true, false, ◌&&◌}
use Prim.Native.Nat.{ℕ}
use native.Mathlib.Omega.{arith}
use lib.Dec.{leb}
use borrow.Author.Rules.{rules}
use borrow.Author.Tests.{le-leb}
use Rattle.std.specs.Prelude.{Option, Some, None, MatchOption, IfSome, IfNone}
use Rattle.calendar.specs.Dates.{IsMonth, first_year, last_year, days_in, is_date}
use Rattle.calendar.specs.declared.Month.{Month}
use Rattle.calendar.proofs.Dates.{not_date}
use Rattle.calendar.proofs.is_date.Goals as goal

-- in an allowed year, by the month that there is, and what is told of its days
module _ (year number day : ℕ) (years : (leb first_year year && leb year last_year) ≡ true) where
  by_month : (Told : Month → Type 0) (month : Option Month) (result : Bool) → IfSome month (λ m. m.number ≡ number) → IfNone month (IsMonth number → ⊥)
      → ((m : Month) → Told m → result ≡ (leb 1 day && leb day (days_in year m.number)))
      → MatchOption month (result ≡ false) Told → result ≡ is_date year number day
  unfolding is_date
  by_month Told None result same none told e = e ∙ sym (not_date year number day λ p. none p.is_month)
  by_month Told (Some m) result same none told e =
      told m e ∙ simp (years, le-leb 1 number (omega (arith, m.is_month.first, same)), le-leb number 12 (omega (arith, m.is_month.last, same)), same)

pub returns-then-contains : goal.returns-then-contains
returns-then-contains c =
    let a = c.args in
    let years : c.contains.result ≡ (leb first_year a.year && leb a.year last_year) = search rules in
    let new = c.new-then-contains in
    by_month a.year a.month a.day (sym years ∙ c.if-contains.true) _ new.result c.is_some_and.result new.ensures.some new.ensures.none (λ m t. search rules) c.is_some_and.ensures

pub returns-else-contains : goal.returns-else-contains
unfolding is_date
returns-else-contains c =
    let a = c.args in
    let years : c.contains.result ≡ (leb first_year a.year && leb a.year last_year) = search rules in
    simp (c.if-contains.false, sym years ∙ c.if-contains.false)
