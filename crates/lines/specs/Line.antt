-- One line of a text.
use Rattle.std.specs.Prelude.{List, ◌++◌, ℕ}
use Prim.Native.String.{String}
use Rattle.lines.specs.Ascii.{ascii}

-- a name, what is told, the line's end
abbrev pub line_of : List ℕ → List ℕ → List ℕ
line_of name told = name ++ (told ++ ascii "\n")

abbrev pub line : String → List ℕ → List ℕ
line name told = line_of (ascii name) told
