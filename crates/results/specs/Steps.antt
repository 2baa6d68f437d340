-- Slot results in steps, as the code takes them: words that contracts use, and no rule of its own.
use Rattle.std.specs.Prelude.{◌≡◌, false, cond, List, map, ℕ, ◌+◌, ℤ, Option, Some, None, length, get_or}
use Rattle.numbers.specs.Slots.{no_days}
use Rattle.readings.specs.Readings.{reading}
use Rattle.heads.specs.Heads.{content_refusal}
use Rattle.heads.specs.declared.Head.{Head}
use Rattle.points.specs.Points.{Kind, is_unknown, size_of, is_unfit, has_large}
use Rattle.results.specs.SlotResults.{Quotient, lacks_days, days_told, consumer_quotient, rounded, results}
use Rattle.results.specs.declared.Found.{Found}

-- a value of some kind that passed every test but that of its days, under a head and a calendar that passed theirs
pub record Passed (h : Head) (marks : List ℕ) (kind : Kind) (value : List ℕ) : Type 0 where
  pub content : content_refusal h marks ≡ 0
  pub known : is_unknown kind ≡ false
  pub size : length value ≡ size_of kind
  pub fit : is_unfit kind value ≡ false
  pub small : has_large kind value ≡ false

-- slot j of a consumer, from its baseline in the six slots
abbrev pub consumer_slot : ℕ → List ℕ → List ℕ → ℕ → ℕ → ℤ
consumer_slot loss slots readings slot j = rounded (consumer_quotient loss (get_or slots j 0) (reading readings 0 (slot + j)))

-- the answer of a kind of point that needs no days
abbrev pub all_found : List Quotient → Found
all_found six = record { found = map rounded six; days = no_days }

-- the answer of a point: its six results and its days, or none where there are not four days
unfoldable pub found_of : Head → List ℕ → Kind → List ℕ → Option Found
found_of h marks kind value =
    cond (lacks_days h marks kind value) None
    (Some (record { found = results h marks kind value; days = days_told h marks kind value }))
