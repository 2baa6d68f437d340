-- The lines that settle_book prints of a settled book (document 01, example M): 'date and s, points, slot totals in order, then the closing
-- figures'.
use Rattle.std.specs.Prelude.{Bool, cond, List, [], ◌∷◌, ◌++◌, ℕ, suc, ℤ}
use Rattle.heads.specs.declared.Head.{Head}
use Rattle.figures.specs.declared.Figures.{Figures}
use Rattle.lines.specs.Ascii.{ascii}
use Rattle.lines.specs.Numerals.{decimal, two_digits, signed}
use Rattle.lines.specs.Line.{line}

-- a month or a day, behind a dash
abbrev pub dashed : ℕ → List ℕ
dashed m = ascii "-" ++ two_digits m

abbrev pub date : Head → List ℕ
date head = decimal head.year ++ (dashed head.month ++ dashed head.day)

abbrev pub date_line : Head → List ℕ
date_line head = ascii "date " ++ (date head ++ line " slot " (decimal head.slot))

-- slot i and those after it
unfoldable pub slot_lines : ℕ → List ℤ → List ℕ
slot_lines i [] = []
slot_lines i (total ∷ totals) = ascii "slot " ++ (decimal i ++ (line " " (signed total) ++ slot_lines (suc i) totals))

-- Wh for the total, kW for the others
abbrev pub settled_lines : Figures → List ℕ
settled_lines figures =
    line "total " (signed figures.total)
    ++ (line "settled " (signed figures.settled)
    ++ line "shortfall " (decimal figures.shortfall))

abbrev pub bid_line : Bool → List ℕ
bid_line bid = line "bid " (cond bid (ascii "yes") (ascii "no"))

-- the capacity left after the test, in kW
abbrev pub capacity_lines : Figures → List ℕ
capacity_lines figures =
    line "expected " (decimal figures.expected)
    ++ (line "kept " (decimal figures.kept)
    ++ (line "surplus " (decimal figures.surplus)
    ++ bid_line figures.bid))

-- THE LINES, from the head, the slot totals and the closing figures
abbrev pub figure_lines : Head → List ℤ → Figures → List ℕ
figure_lines head totals figures =
    date_line head ++ (line "points " (decimal figures.points) ++ (slot_lines 1 totals ++ (settled_lines figures ++ capacity_lines figures)))
