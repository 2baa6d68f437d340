-- Half-year reports (CR 4), worked by hand: the words of a few results, and the sheet over them.
use Rattle.std.specs.Prelude.{◌≡◌, List, [], ◌∷◌, ◌++◌, ℕ, ℤ, pos, neg_ℤ}
use Rattle.numbers.specs.Lists.{gather}
use Rattle.numbers.specs.Words.{bytes_of}
use Rattle.integers.specs.Integers.{twos_complement}
use Rattle.sheet.specs.Sheet.{sheet_text}
use Rattle.worked_examples.specs.ExampleM.{lines}

-- the 64 bytes of eight words: total, settled, shortfall, expected, kept, surplus, points, bid
abbrev pub record_bytes : List ℤ → List ℕ
record_bytes words = gather (λ word. bytes_of 8 (twos_complement word)) words

-- the result of example M
abbrev pub result_m : List ℤ
result_m = pos 3_300_000 ∷ pos 1_100 ∷ pos 0 ∷ pos 1_100 ∷ pos 1_000 ∷ pos 100 ∷ pos 1 ∷ pos 1 ∷ []

-- contract 1,000, one point, total −1: settled −1, and the shortfall exceeds the contract
abbrev pub result_below_zero : List ℤ
result_below_zero = neg_ℤ (pos 1) ∷ neg_ℤ (pos 1) ∷ pos 1_001 ∷ pos 0 ∷ pos 0 ∷ pos 0 ∷ pos 1 ∷ pos 0 ∷ []

-- M with a bid of 2
abbrev pub bid_of_2 : List ℤ
bid_of_2 = pos 3_300_000 ∷ pos 1_100 ∷ pos 0 ∷ pos 1_100 ∷ pos 1_000 ∷ pos 100 ∷ pos 1 ∷ pos 2 ∷ []

pub record ReportExamples : Type 0 where
  -- 'no records gives zeros'
  pub none : sheet_text [] ≡ lines
      ("records 0"
      ∷ "points 0"
      ∷ "total 0"
      ∷ "settled 0"
      ∷ "shortfall 0"
      ∷ "expected 0"
      ∷ "kept 0"
      ∷ "surplus 0"
      ∷ [])
  pub below_zero : sheet_text (record_bytes result_below_zero) ≡ lines
      ("records 1"
      ∷ "points 1"
      ∷ "total -1"
      ∷ "settled -1"
      ∷ "shortfall 1001"
      ∷ "expected 0"
      ∷ "kept 0"
      ∷ "surplus 0"
      ∷ [])
  pub two : sheet_text (record_bytes result_m ++ record_bytes result_below_zero) ≡ lines
      ("records 2"
      ∷ "points 2"
      ∷ "total 3299999"
      ∷ "settled 1099"
      ∷ "shortfall 1001"
      ∷ "expected 1100"
      ∷ "kept 1000"
      ∷ "surplus 100"
      ∷ [])
  -- the place is counted from 0, and it is the lowest
  pub second_breaks : sheet_text (record_bytes result_m ++ record_bytes bid_of_2 ++ record_bytes bid_of_2)
      ≡ lines ("refused 54 1" ∷ [])
  -- 53 comes first
  pub one_byte_more : sheet_text (record_bytes bid_of_2 ++ 0 ∷ []) ≡ lines ("refused 53" ∷ [])
