-- Slot totals.
use Rattle.std.specs.Prelude.{List, [], ◌∷◌, ℤ, ◌+ℤ◌}

-- slot by slot
unfoldable pub plus : List ℤ → List ℤ → List ℤ
plus [] ys = []
plus (x ∷ xs) [] = []
plus (x ∷ xs) (y ∷ ys) = (x +ℤ y) ∷ plus xs ys
