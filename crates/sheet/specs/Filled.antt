-- The sheet over what a reader has put into a slice: words that contracts use.
use Rattle.std.specs.Prelude.{◌≡◌, List, ℕ, ◌≤◌, length, take}
use Rattle.sheet.specs.Sheet.{sheet_text}

-- over its first bytes, or over all of it where a longer input has filled it
pub record IsSheetOf (slice sheet : List ℕ) : Type 0 where
  pub count : ℕ
  pub within : count ≤ length slice
  pub is : sheet ≡ sheet_text (take count slice)
