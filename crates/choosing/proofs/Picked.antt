-- The day that is picked of some is one of them. Assumes nothing.
use mathlib.Core.Bool.{Bool, true, false, cond}
use mathlib.Core.List.{List, [], ◌∷◌}
use Prim.Native.Nat.{ℕ}
use Rattle.choosing.specs.Choosing.{picked}
use Rattle.choosing.proofs.SomeOf.{In, here, there}

module _ (test : ℕ → ℕ → Bool) (w : ℕ → ℕ) where
  pub picked_in : (day : ℕ) (days : List ℕ) → In (picked test w day days) (day ∷ days)
  unfolding picked
  picked_in day [] = here
  picked_in day (k ∷ days) = go (test (w k) (w day)) (picked_in k days) (picked_in day days)
    where
      over : {d : ℕ} → In d (day ∷ days) → In d (day ∷ k ∷ days)
      over here = here
      over (there p) = there (there p)

      go : (t : Bool) → In (picked test w k days) (k ∷ days) → In (picked test w day days) (day ∷ days)
          → In (picked test w (cond t k day) days) (day ∷ k ∷ days)
      go true p q = there p
      go false p q = over q
