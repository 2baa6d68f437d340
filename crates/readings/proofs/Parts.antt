-- The first too large reading, part by part. Assumes nothing.
use mathlib.Core.Path.{◌≡◌, refl, sym, ap, ◌∙◌}
use mathlib.Core.Bool.{Bool, true, false, cond}
use mathlib.Core.List.{List}
use Prim.Native.Nat.{ℕ, ◌+◌, ◌*◌, ◌/◌, ◌≤◌}
use native.Mathlib.Nat.{zero-add}
use native.Mathlib.Omega.{arith}
use borrow.Author.Tests.{lt-ltb, le-ltb, ltb-true, ltb-false}
use lib.Dec.{ltb}
use lib.ListN.{length, take, drop, length-take, length-drop}
use Rattle.std.specs.Prelude.{Option, Some, None}
use Rattle.std.proofs.lemmas.Option.{cond_some, none-some}
use Rattle.readings.specs.Readings.{reading_length, first_large, large_place}
use Rattle.readings.proofs.Large.{pass_all, found_within, first_bound, large_of_part}

-- a place behind k readings
abbrev pub behind : ℕ → Option ℕ → Option ℕ
behind k None = None
behind k (Some place) = Some (k + place)

pub behind_none : (place : Option ℕ) → place ≡ behind 0 place
behind_none None = refl
behind_none (Some place) = ap Some (omega arith)

pub behind_both : (j k : ℕ) (place : Option ℕ) → behind j (behind k place) ≡ behind (j + k) place
behind_both j k None = refl
behind_both j k (Some place) = ap Some (omega arith)

-- a place among n readings
abbrev among : ℕ → ℕ → Option ℕ
among n place = cond (ltb place n) (Some place) None

none_among : (n place : ℕ) → among n place ≡ None → n ≤ place
none_among n place = go (ltb place n) refl
  where
    go : (t : Bool) → ltb place n ≡ t → cond t (Some place) None ≡ None → n ≤ place
    go true p e = absurd (none-some place (sym e))
    go false p e = ltb-false _ _ p

among_behind : (k m place : ℕ) → among (k + m) (k + place) ≡ behind k (among m place)
among_behind k m place = go (ltb place m) refl
  where
    go : (t : Bool) → ltb place m ≡ t → among (k + m) (k + place) ≡ behind k (cond t (Some place) None)
    go true p = rw (lt-ltb (k + place) (k + m) (omega (arith, ltb-true _ _ p))) refl
    go false p = rw (le-ltb (k + place) (k + m) (omega (arith, ltb-false _ _ p))) refl

-- some bytes whose first k readings are a part
module _ (k : ℕ) (readings : List ℕ) (room : k * reading_length ≤ length readings) where
  abbrev m : ℕ
  m = length (drop (k * reading_length) readings) / reading_length

  all : length readings / reading_length ≡ k + m
  all = let l = length-drop (k * reading_length) readings in omega (arith, l)

  part_place : large_place (take (k * reading_length) readings) ≡ among k (first_large readings k)
  part_place =
      let l = length-take (k * reading_length) readings in
      let n : length (take (k * reading_length) readings) / reading_length ≡ k = omega (arith, l) in
      rw (n, large_of_part readings k room) refl

  pub found_in_part : (place : ℕ) → large_place (take (k * reading_length) readings) ≡ Some place → large_place readings ≡ Some place
  found_in_part place e =
      let f = cond_some _ _ _ (sym part_place ∙ e) in
      let within = ltb-true _ _ f.0 in
      rw (all, found_within readings k 0 m within, lt-ltb (first_large readings k) (k + m) (omega (arith, within))) (ap Some f.1)

  pub none_in_part : large_place (take (k * reading_length) readings) ≡ None → large_place readings ≡ behind k (large_place (drop (k * reading_length) readings))
  none_in_part e =
      let passed : first_large readings k ≡ k = omega (arith, none_among _ _ (sym part_place ∙ e), first_bound readings k) in
      rw (all, pass_all readings k 0 m passed, zero-add) (among_behind k m (first_large (drop (k * reading_length) readings) m))
