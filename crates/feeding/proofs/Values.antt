-- A value, cut or whole. Assumes nothing.
use mathlib.Core.Path.{◌≡◌, refl}
use mathlib.Core.List.{List}
use Prim.Native.Nat.{ℕ, ◌<◌, ◌≤◌}
use native.Mathlib.Omega.{arith}
use borrow.Author.Tests.{lt-ltb, le-ltb}
use lib.ListN.{length, take}
use Rattle.fields.specs.Fields.{length_due}
use Rattle.fields.specs.declared.Due.{Due}
use Rattle.feeding.specs.Feeding.{refused_at, got, value_fed}
use Rattle.feeding.specs.Feeding.{Progress}

module _ (due : Due) (tag : ℕ) (p : Progress) (bytes : List ℕ) where
  pub value_cut : length bytes < length_due due tag → value_fed due tag p bytes ≡ refused_at 31 p
  unfolding value_fed
  value_cut h = simp (lt-ltb _ _ h)

  pub value_whole : length_due due tag ≤ length bytes → value_fed due tag p bytes ≡ got due tag p (take (length_due due tag) bytes)
  unfolding value_fed
  value_whole h = simp (le-ltb _ _ h)

  -- as the code takes it
  pub value_from : (size : ℕ) → size ≡ length_due due tag → size ≤ length bytes → got due tag p (take size bytes) ≡ value_fed due tag p bytes
  value_from size e h = rw (e, value_whole (omega arith)) refl
