-- The index that is told with a refusal. Assumes nothing.
use mathlib.Core.Path.{◌≡◌, refl, ap, ◌∙◌}
use mathlib.Core.Bool.{Bool, true, false, true≢false}
use mathlib.Core.List.{List}
use Prim.Native.Nat.{ℕ}
use Rattle.std.specs.Prelude.{Err}
use Rattle.numbers.specs.Refusals.{first_told}
use Rattle.numbers.proofs.NeverTold.{Without, never}
use Rattle.refusals.specs.declared.Refusal.{Refusal}
use Rattle.refusals.specs.declared.Refusal.TheVariants.{ReadingOfTestDay, ReadingOfDaysBack}
use Rattle.refusals.specs.Told.{number_of, index_of}
use Rattle.points.specs.Points.{kind_of, large_at, is_of_reading, with_index}
use Rattle.points.specs.Told.{refusal_told}

-- a refusal that is about no reading has no index
unread : (refusal : Refusal) → is_of_reading (number_of refusal) ≡ false → index_of refusal ≡ 0
unread (ReadingOfTestDay index) e = absurd (true≢false e)
unread (ReadingOfDaysBack index) e = absurd (true≢false e)
unread refusal e = refl

-- so it is with one that a group of rows tells of which none is
pub no_index_in : (tag : ℕ) (value : List ℕ) (rows : List (Bool × ℕ)) (refusal : Refusal) {n : ℕ}
    → Without is_of_reading rows → number_of refusal ≡ first_told rows → number_of refusal ≡ n → refusal_told {A = Unit {0}} (Err refusal) ≡ with_index n tag value
no_index_in tag value rows refusal t e f =
    let other : is_of_reading (number_of refusal) ≡ false = ap is_of_reading e ∙ never is_of_reading rows refl t in
    rw (← f, other, unread refusal other)

-- ---- the same by the numbers alone

module _ (tag : ℕ) (value : List ℕ) where
  -- a refusal that is about no reading
  pub no_index : {n refusal : ℕ} → n ≡ refusal → is_of_reading n ≡ false → record { number = n; index = 0 } ≡ with_index refusal tag value
  no_index e u = rw (← e) (simp u)

  -- one that a group of rows tells of which none is
  pub no_index_among : (rows : List (Bool × ℕ)) {n refusal : ℕ} → Without is_of_reading rows → n ≡ first_told rows → n ≡ refusal
      → record { number = n; index = 0 } ≡ with_index refusal tag value
  no_index_among rows t e f = no_index f (ap is_of_reading e ∙ never is_of_reading rows refl t)

  -- and one that is about a reading
  pub index_of_large : {n index refusal : ℕ} → n ≡ refusal → is_of_reading n ≡ true → index ≡ large_at (kind_of tag) value
      → record { number = n; index = index } ≡ with_index refusal tag value
  index_of_large e u i = rw (← e, i) (simp u)
