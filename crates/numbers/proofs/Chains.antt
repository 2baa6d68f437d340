-- What chains of iterators give, in the words of specs/Lists. Assumes nothing.
use mathlib.Core.List.{List, ◌∷◌, map}
use mathlib.Core.Path.{◌≡◌, refl, sym, ap, ◌∙◌}
use Prim.Native.Nat.{ℕ, zero, suc, ◌<◌}
use native.Mathlib.Numerals.{add-one}
use native.Mathlib.Omega.{arith}
use denote.Param.Members.{Mut, Called}
use lib.ListN.{length, length-map, get_or-map}
use Rattle.std.specs.Array.{IsMapOf}
use Rattle.std.specs.List.{range_with_len}
use Rattle.std.specs.List as list
use Rattle.std.proofs.lemmas.List.{ext_get_or}
use Rattle.std.proofs.lemmas.List.Recursion.{is_sum_by}
use Rattle.numbers.specs.Lists.{run, sum}

-- of `sum`
pub sum_is : (xs : List ℕ) → list.sum xs ≡ sum xs
unfolding sum
sum_is xs = sym (is_sum_by sum (λ x. x) refl (λ _ _. refl) xs)

-- of `map` over a range
pub map_is : {A : Type 0} (f : ℕ → A) (i n : ℕ) → map f (range_with_len i n) ≡ run f i n
unfolding run
map_is f i zero = refl
map_is f i (suc n) = rw add-one (ap (λ xs. f i ∷ xs) (map_is f (suc i) n))

-- of an array's `map`
pub array_map_is : {F A B : Type 0} (g : Mut F (A × Unit {0}) B) (h : A → B) {f : F} {xs : List A} {ys : List B} (n : ℕ) (d : A)
    → ((p : F) (x : A) (y : B) (q : F) → Called g p (x, tt) y q → y ≡ h x) → IsMapOf g f xs ys n → length xs ≡ n → ys ≡ map h xs
array_map_is g h {xs = xs} {ys = ys} n d gives result e =
    ext_get_or (h d) ys (map h xs) (result.long ∙ sym (length-map xs h ∙ e)) λ i below.
    let within : i < n = omega (arith, result.long) in
    let (p, q, called) = result.at i d (h d) within in
    gives p _ _ q called ∙ sym (get_or-map h xs i d)
