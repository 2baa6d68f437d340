-- Words as bytes.
use Rattle.std.specs.Prelude.{List, [] as none, ◌∷◌ as ◌then◌, ℕ}
use Prim.Native.Char.{code}
use Prim.Native.String.{String, [], ◌∷◌}

abbrev pub ascii : String → List ℕ
ascii [] = none
ascii (c ∷ cs) = code c then ascii cs
