-- What the program report prints (CR 4): 'one line each, name, space, number'; of a refused input 'the one line is then refused, space,
-- number and, for 54, space, the place from 0'.
use Rattle.std.specs.Prelude.{◌≡◌, cond, List, [], ◌++◌, map, ℕ, ◌*◌, ◌<◌, eqb, ℤ, length}
use Rattle.integers.specs.Integers.{sum_ℤ, signed_word}
use Rattle.lines.specs.Ascii.{ascii}
use Rattle.lines.specs.Numerals.{decimal, signed}
use Rattle.lines.specs.Line.{line}
use Rattle.records.specs.Records.{record_length, MadeOf}
use Rattle.records.specs.Report.{most_records, Report, report_of}
use Rattle.records.specs.declared.Sums.{Sums}

-- points and the figures of the tests
abbrev pub test_lines : Sums → List ℕ
test_lines sums =
    line "points " (signed sums.points)
    ++ (line "total " (signed sums.total)
    ++ (line "settled " (signed sums.settled)
    ++ line "shortfall " (signed sums.shortfall)))

-- the capacity left after the tests
abbrev pub capacity_lines : Sums → List ℕ
capacity_lines sums =
    line "expected " (signed sums.expected) ++ (line "kept " (signed sums.kept) ++ line "surplus " (signed sums.surplus))

-- 'records, then the sums points, total, settled, shortfall, expected, kept and surplus'
abbrev pub sums_lines : Sums → List ℕ
sums_lines sums = line "records " (decimal sums.records) ++ (test_lines sums ++ capacity_lines sums)

-- 'for 54, space, the place'
abbrev pub place_text : ℕ → ℕ → List ℕ
place_text refusal place = cond (eqb refusal 54) (ascii " " ++ decimal place) []

abbrev pub refused_line : ℕ → ℕ → List ℕ
refused_line refusal place = line "refused " (decimal refusal ++ place_text refusal place)

-- THE SHEET of a report
unfoldable pub sheet_of : Report → List ℕ
sheet_of report = cond (eqb report.refusal 0) (sums_lines report.sums) (refused_line report.refusal report.place)

-- the sheet over an input
abbrev pub sheet_text : List ℕ → List ℕ
sheet_text bytes = sheet_of (report_of bytes)

-- THE SUMS ARE PRINTED: 'every printed sum equals the sum over the records themselves'. Word k of a record stands 8 × k bytes behind its
-- first byte.
abbrev pub word_sum : ℕ → List (List ℕ) → ℤ
word_sum k records = sum_ℤ (map (λ bytes. signed_word bytes (8 * k)) records)

abbrev pub SumsPrinted : Type 0
SumsPrinted = (bytes : List ℕ) (records : List (List ℕ))
    → MadeOf bytes records
    → (report_of bytes).refusal ≡ 0
    → sheet_text bytes
    ≡ line "records " (decimal (length records))
    ++ ((line "points " (signed (word_sum 6 records))
    ++ (line "total " (signed (word_sum 0 records))
    ++ (line "settled " (signed (word_sum 1 records)) ++ line "shortfall " (signed (word_sum 2 records)))))
    ++ (line "expected " (signed (word_sum 3 records))
    ++ (line "kept " (signed (word_sum 4 records)) ++ line "surplus " (signed (word_sum 5 records)))))

-- THE REFUSAL IS PRINTED: the one line
pub record RefusalLine (bytes : List ℕ) : Type 0 where
  pub size : (report_of bytes).refusal ≡ 53 → sheet_text bytes ≡ ascii "refused 53\n"
  pub rule : (report_of bytes).refusal ≡ 54 → sheet_text bytes ≡ ascii "refused 54 " ++ (decimal (report_of bytes).place ++ ascii "\n")

abbrev pub RefusalPrinted : Type 0
RefusalPrinted = (bytes : List ℕ) → RefusalLine bytes

-- A LONGER INPUT IS REFUSED, whatever its first bytes are: so a slice with room for one byte more shows it
abbrev pub LongerRefused : Type 0
LongerRefused = (bytes : List ℕ) → record_length * most_records < length bytes → sheet_text bytes ≡ ascii "refused 53\n"
