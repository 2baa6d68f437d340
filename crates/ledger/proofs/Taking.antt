-- What an accepted adding shows, and how large its slot results are. Assumes nothing.
use mathlib.Core.Path.{◌≡◌}
use mathlib.Core.Bool.{false}
use mathlib.Core.List.{List}
use Prim.Native.Nat.{ℕ, ◌<◌, ◌≤◌}
use lib.Dec.{T, eqb}
use lib.IntN.{pos, nat_abs}
use lib.ListN.{length, get_or}
use mir.Facts.{eqb_yes}
use borrow.Author.Tests.{leb-false}
use Rattle.numbers.specs.Slots.{window_slots}
use Rattle.numbers.specs.PointNumbers.{is_number}
use Rattle.numbers.specs.Refusals.{first_told}
use Rattle.numbers.proofs.Refusals.{untold, both_accepted}
use Rattle.numbers.proofs.Tests.{none_of, any_map}
use Rattle.heads.specs.Limits.{most_result}
use Rattle.points.specs.Points.{Kind, kind_of, is_unknown, size_of, number_of, is_unfit, has_large, value_rows}
use Rattle.points.proofs.PointKinds.{values_numbered, fits, all_small}
use Rattle.results.specs.SlotResults.{results}
use Rattle.heads.specs.declared.Head.{Head}
use Rattle.heads.proofs.Opening.{passed, Opens}
use Rattle.results.proofs.Bounds.{is_beyond, none_beyond, small_by}
use Rattle.ledger.specs.Operations.{before_value, given_tests, days_row, point_refusal}

-- what 10 to 16 and 50 to 52 show, where none of them is told
pub record Given (h : Head) (points : ℕ) (kind : Kind) (value : List ℕ) (places : ℕ) : Type 0 where
  pub room : points < h.count
  pub known : is_unknown kind ≡ false
  pub size : length value ≡ size_of kind
  pub six : places ≡ window_slots
  pub number : T (is_number (number_of value))
  pub fit : is_unfit kind value ≡ false
  pub small : has_large kind value ≡ false

module _ (h : Head) (points : ℕ) (last : List ℕ) (tag : ℕ) (value : List ℕ) (places : ℕ) where
  pub given : first_told (given_tests h points last tag value places) ≡ 0 → Given h points (kind_of tag) value places
  given e =
      let before = before_value h points last tag value places in
      let accepted = both_accepted before (value_rows tag value) tt e in
      let c = untold before tt accepted.0 in
      record {
        room = leb-false h.count points (c 10);
        known = c 11;
        size = eqb_yes (passed (eqb (length value) (size_of (kind_of tag))) (c 12));
        six = eqb_yes (passed (eqb places window_slots) (c 13));
        number = passed (is_number (number_of value)) (c 14);
        fit = fits tag value accepted.1;
        small = all_small tag value accepted.1;
      }

  -- and where 18 is not told either
  pub takes : (marks : List ℕ) → point_refusal h marks points last tag value places ≡ 0 → Given h points (kind_of tag) value places
  unfolding point_refusal
  takes marks e = given (both_accepted (given_tests h points last tag value places) (days_row h marks tag value) (values_numbered tag value) e).0

module _ {h : Head} {points : ℕ} {kind : Kind} {value : List ℕ} {places : ℕ} (g : Given h points kind value places) (marks : List ℕ) where
  -- each slot result is within the limit
  pub results_small : Opens h → T (none_of (is_beyond most_result) (results h marks kind value))
  results_small o = rw any_map (small_by h marks o kind value g.fit g.small)

  pub result_small : Opens h → (j : ℕ) → nat_abs (get_or (results h marks kind value) j (pos 0)) ≤ most_result
  result_small o = none_beyond most_result (results h marks kind value) (results_small o)
