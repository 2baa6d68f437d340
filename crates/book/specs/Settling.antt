-- WHOLE BOOK (document 01): the answer, and what the lent 64 bytes hold afterwards.
use Rattle.std.specs.Prelude.{cond, List, [], ◌∷◌, ℕ, eqb, ℤ, pos, length}
use Rattle.numbers.specs.Lists.{gather}
use Rattle.numbers.specs.Words.{bytes_of}
use Rattle.integers.specs.Integers.{twos_complement}
use Rattle.figures.specs.declared.Figures.{Figures}
use Rattle.ledger.specs.Operations.{Closed}
use Rattle.book.specs.Reading.{read_book}
use Rattle.book.specs.Endings.{book_ending, closed_after}

-- the closing of a book, after its reading
abbrev pub closing_of : List ℕ → Closed
closing_of book = closed_after (book_ending (read_book book))

-- 'total, settled, shortfall, expected, kept, surplus, points, bid (1 or 0)'
abbrev pub words_of : Figures → List ℤ
words_of f =
    f.total
    ∷ f.settled
    ∷ pos f.shortfall
    ∷ pos f.expected
    ∷ pos f.kept
    ∷ pos f.surplus
    ∷ pos f.points
    ∷ pos (cond f.bid 1 0)
    ∷ []

-- '64 bytes for the result'
abbrev pub result_length : ℕ
result_length = 64

-- 'eight signed 8-byte words (two's complement, high byte first)'
abbrev pub result_bytes : Figures → List ℕ
result_bytes f = gather (λ word. bytes_of 8 (twos_complement word)) (words_of f)

-- 40: not 64 bytes; then field by field
unfoldable pub settling_refusal : List ℕ → ℕ → ℕ
settling_refusal book room = cond (eqb room result_length) (closing_of book).refusal 40

unfoldable pub settling_result : List ℕ → List ℕ → List ℕ
settling_result book result =
    cond (eqb (settling_refusal book (length result)) 0) (result_bytes (closing_of book).figures) result
