-- Numbers that no row of a table has, or none but those in its middle. Assumes nothing.
use mathlib.Core.Path.{◌≡◌, ap, sym, ◌∙◌}
use mathlib.Core.Bool.{Bool, true, false, cond, not, true≢false}
use mathlib.Core.List.{List, [], ◌∷◌, ◌++◌}
use Prim.Native.Nat.{ℕ}
use native.Mathlib.Decide.{ℕ_discrete}
use lib.Dec.{T}
use Rattle.numbers.specs.Refusals.{first_told}
use Rattle.numbers.proofs.Refusals.{numbered, told, passed}
use Rattle.numbers.proofs.Tests.{none_of, none_cons, no_false}

-- no row has a number that passes the test
abbrev pub Without : (ℕ → Bool) → List (Bool × ℕ) → Type 0
Without test rows = T (none_of (λ row. test row.1) rows)

-- such a number is not told; 0 is told where no row fits
pub never : (test : ℕ → Bool) (rows : List (Bool × ℕ)) → test 0 ≡ false → Without test rows → test (first_told rows) ≡ false
never test [] z t = z
never test (row ∷ rows) z t = go row.0 ((none_cons (λ row. test row.1) row rows).0 t) (never test rows z)
  where
    go : (b : Bool) → T (not (test row.1)) × Without test rows → (Without test rows → test (first_told rows) ≡ false)
        → test (cond b row.1 (first_told rows)) ≡ false
    go true p f = no_false _ p.0
    go false p f = f p.1

-- one that the rows in the middle alone may have is told by these, behind rows that tell none
pub told_within : (test : ℕ → Bool) (before rows after : List (Bool × ℕ)) → T (numbered before) → T (numbered rows) → test 0 ≡ false
    → Without test before → Without test after → test (first_told (before ++ (rows ++ after))) ≡ true
    → (first_told before ≡ 0) × (first_told (before ++ (rows ++ after)) ≡ first_told rows)
told_within test before rows after k l z b a t = go (ℕ_discrete (first_told before) 0) (ℕ_discrete (first_told rows) 0)
  where
    go : Dec (first_told before ≡ 0) → Dec (first_told rows ≡ 0) → (first_told before ≡ 0) × (first_told (before ++ (rows ++ after)) ≡ first_told rows)
    go (no n) d = absurd (true≢false (sym t ∙ ap test (told before (rows ++ after) n) ∙ never test before z b))
    go (yes e) (no n) = (e, passed before (rows ++ after) k e ∙ told rows after n)
    go (yes e) (yes f) = absurd (true≢false (sym t ∙ ap test (passed before (rows ++ after) k e ∙ passed rows after l f) ∙ never test after z a))
