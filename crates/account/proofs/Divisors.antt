-- The divisors of a point's quotients: they go into the parts of a Wh, and only those that demand 3 lists can leave a remainder. Assumes
-- nothing.
use mathlib.Core.Path.{◌≡◌, refl, sym, ap}
use mathlib.Core.Bool.{false, not}
use mathlib.Core.List.{List, [], ◌∷◌}
use Prim.Native.Nat.{ℕ, zero, suc, ◌+◌, ◌*◌, ◌-◌, ◌<◌, ◌≤◌}
use native.Mathlib.Nat.{mul-mod_right, mul-pos}
use native.Mathlib.Omega.{arith}
use lib.Dec.{T, leb}
use lib.IntN.{pos, ◌-ℤ◌}
use lib.ListN.{get_or}
use mir.Facts.{leb_yes}
use Rattle.numbers.specs.Lists.{any, gather}
use Rattle.numbers.specs.Words.{word32}
use Rattle.integers.specs.Integers.{divides}
use Rattle.numbers.proofs.Filling.{any_append}
use Rattle.integers.proofs.Floors.{divides_one}
use Rattle.points.specs.Points.{Point, Kind, consumer, generator, mixed_firing, unknown, kind_of, class_of, is_unfit, baseline_of, readings_of}
use Rattle.results.specs.SlotResults.{generator_quotient, quotients}
use Rattle.account.specs.Account.{product, parts_of_wh}
use Rattle.account.specs.Demand3.{divisions_by, divisions, all_quotients}
use Rattle.heads.specs.declared.Head.{Head}
use Rattle.numbers.proofs.Tests.{no_false, every, every_run}
use Rattle.account.proofs.Rounding.{whole, goes_into}
use Rattle.heads.proofs.Opening.{both, Opens}

-- ---- they go into the parts of a Wh

goes : (d m parts : ℕ) → d * m ≡ parts → T (divides d (pos parts))
goes d m parts e = rw (← e, mul-mod_right) tt

share_goes : (h : Head) → T (divides 1_000 (pos (parts_of_wh h)))
share_goes h = goes 1_000 (24 * product h) (parts_of_wh h) (omega arith)

-- what the loss of a class leaves of 10,000
abbrev left : Head → ℕ → ℕ
left h i = 10_000 - get_or h.losses i 0

class_goes : (h : Head) (class : ℕ) → 1 ≤ class → class ≤ 3 → T (divides (24 * left h (class - 1)) (pos (parts_of_wh h)))
class_goes h zero l m = absurd (omega arith)
class_goes h (suc zero) l m = goes (24 * left h 0) (1_000 * (left h 1 * left h 2)) (parts_of_wh h) (omega arith)
class_goes h (suc (suc zero)) l m = goes (24 * left h 1) (1_000 * (left h 0 * left h 2)) (parts_of_wh h) (omega arith)
class_goes h (suc (suc (suc zero))) l m = goes (24 * left h 2) (1_000 * (left h 0 * left h 1)) (parts_of_wh h) (omega arith)
class_goes h (suc (suc (suc (suc class)))) l m = absurd (omega arith)

consumer_goes : (h : Head) (value : List ℕ) → is_unfit consumer value ≡ false → T (divides (24 * left h (class_of value - 1)) (pos (parts_of_wh h)))
consumer_goes h value fit =
    let t = both (leb 1 (class_of value)) (leb (class_of value) 3) fit in
    class_goes h (class_of value) (leb_yes t.0) (leb_yes t.1)

-- A line for each kind of point.
pub goes_by : (h : Head) (marks : List ℕ) (kind : Kind) (value : List ℕ) → is_unfit kind value ≡ false
    → T (every (goes_into (parts_of_wh h)) (quotients h marks kind value))
unfolding quotients any
goes_by h marks consumer value fit = every_run (goes_into (parts_of_wh h)) _ 0 6 λ j hj. consumer_goes h value fit
goes_by h marks generator value fit = every_run (goes_into (parts_of_wh h)) _ 0 6 λ j hj. divides_one (pos (parts_of_wh h))
goes_by h marks mixed_firing value fit = every_run (goes_into (parts_of_wh h)) _ 0 6 λ j hj. share_goes h
goes_by h marks unknown value fit = tt

pub wh_pos : (h : Head) → Opens h → 0 < parts_of_wh h
wh_pos h o =
    let some_left : (i : ℕ) → 0 < left h i = λ i. omega (arith, o.losses i) in
    omega (arith, mul-pos (mul-pos (some_left 0) (some_left 1)) (some_left 2))

-- ---- a division that is not listed leaves no remainder

generator_whole : (kilowatt metered : ℕ) → T (whole (generator_quotient kilowatt metered))
generator_whole kilowatt metered = divides_one (pos metered -ℤ pos (500 * kilowatt))

-- A line for each kind of point.
unlisted : (h : Head) (marks : List ℕ) (kind : Kind) (value : List ℕ)
    → any (λ q. not (whole q)) (divisions_by h marks kind value) ≡ any (λ q. not (whole q)) (quotients h marks kind value)
unfolding quotients any
unlisted h marks consumer value = refl
unlisted h marks generator value = sym (no_false _ (every_run whole _ 0 6 λ j hj. generator_whole (baseline_of value) (word32 (readings_of generator value) ((0 + j) * 4))))
unlisted h marks mixed_firing value = refl
unlisted h marks unknown value = refl

unlisted_all : (h : Head) (marks : List ℕ) (points : List Point)
    → any (λ q. not (whole q)) (divisions h marks points) ≡ any (λ q. not (whole q)) (all_quotients h marks points)
unfolding gather
unlisted_all h marks [] = refl
unlisted_all h marks (p ∷ points) = simp any_append (rw (unlisted h marks (kind_of p.tag) p.value, unlisted_all h marks points))

pub wholes : (h : Head) (marks : List ℕ) (points : List Point) → every whole (divisions h marks points) ≡ every whole (all_quotients h marks points)
wholes h marks points = ap not (unlisted_all h marks points)
