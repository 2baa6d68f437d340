-- A book that comes from outside, part by part: how far it has come, and what there is to report (words that contracts use).
use Rattle.std.specs.Prelude.{◌≡◌, List, ◌++◌, ℕ}
use Rattle.book.specs.Endings.{Ending}
use Rattle.feeding.specs.Feeding.{Progress, start_of, fed, ending_fed, most_feedings}

-- so many feedings are left: a book that begins with what has come ends as what comes next ends from here on
pub record Coming (turns : ℕ) (p : Progress) : Type 0 where
  pub book : List ℕ
  pub ends : (left : List ℕ) → fed most_feedings start_of (book ++ left) ≡ fed turns p left

-- a whole book was fed, with the feedings that any book takes: by FieldByField nothing more is waited for
pub record FedWhole (p : Progress) : Type 0 where
  pub book : List ℕ
  pub is : fed most_feedings start_of book ≡ p

-- how the reading of a whole book ended that was fed so
pub record EndsWhole (ending : Ending) : Type 0 where
  pub progress : Progress
  pub fed_whole : FedWhole progress
  pub is : ending_fed progress ≡ ending
