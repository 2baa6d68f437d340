-- A number tested against both ends of a range. Assumes nothing.
use mathlib.Core.Path.{◌≡◌}
use mathlib.Core.Bool.{true, false, ◌&&◌, and-false}
use Prim.Native.Nat.{ℕ, ◌<◌, ◌≤◌}
use lib.Dec.{leb}
use borrow.Author.Tests.{le-leb, lt-leb}

module _ (low high x : ℕ) where
  pub in_range : low ≤ x → x ≤ high → (leb low x && leb x high) ≡ true
  in_range h k = simp (le-leb _ _ h, le-leb _ _ k)

  pub under_range : x < low → (leb low x && leb x high) ≡ false
  under_range h = simp (lt-leb _ _ h)

  pub over_range : high < x → (leb low x && leb x high) ≡ false
  over_range h = rw (lt-leb x high h) (and-false (leb low x))
