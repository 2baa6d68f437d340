-- Example M of document 01, and its empty book: what the definitions print, and what the paper says.
use Rattle.std.specs.Prelude.{◌≡◌, List, [], ◌∷◌, ◌++◌, ℕ, replicate}
use Prim.Native.String.{String}
use Rattle.numbers.specs.Lists.{gather}
use Rattle.numbers.specs.Words.{bytes_of}
use Rattle.fields.specs.Fields.{written}
use Rattle.worked_examples.specs.Examples.{head}
use Rattle.lines.specs.Ascii.{ascii}
use Rattle.lines.specs.Line.{line}
use Rattle.printing.specs.Printed.{book_text}

-- generator 0000000000000000000001, baseline 0, six readings of 550,000; M's head is that of H
abbrev pub generator : List ℕ
generator = ascii "0000000000000000000001" ++ bytes_of 4 0 ++ gather (bytes_of 4) (replicate 6 550_000)

abbrev pub book : List ℕ
book = written 1 head ++ written 2 (replicate 30 0) ++ written 4 generator

abbrev pub lines : List String → List ℕ
lines [] = []
lines (l ∷ ls) = line l [] ++ lines ls

abbrev pub ExampleM : Type 0
ExampleM = book_text book ≡ lines
    ("date 2024-08-07 slot 26"
    ∷ "points 1"
    ∷ "slot 1 550000"
    ∷ "slot 2 550000"
    ∷ "slot 3 550000"
    ∷ "slot 4 550000"
    ∷ "slot 5 550000"
    ∷ "slot 6 550000"
    ∷ "total 3300000"
    ∷ "settled 1100"
    ∷ "shortfall 0"
    ∷ "expected 1100"
    ∷ "kept 1000"
    ∷ "surplus 100"
    ∷ "bid yes"
    ∷ [])

-- 'Empty book: 31'
abbrev pub EmptyBook : Type 0
EmptyBook = book_text [] ≡ lines ("refused 31" ∷ [])
