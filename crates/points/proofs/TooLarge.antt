-- What a table of refusals that holds the rows of a value tells of its readings. Assumes nothing.
use mathlib.Core.Path.{◌≡◌, refl, ap, sym, ◌∙◌}
use mathlib.Core.Logic.{⊎_elim}
use mathlib.Core.Bool.{Bool, true, false, cond, true≢false}
use mathlib.Core.List.{List, ◌++◌}
use Prim.Native.Nat.{ℕ, ◌*◌, ◌<◌, ◌≤◌}
use native.Mathlib.Nat.{add_assoc, le_antisymm}
use native.Mathlib.Decide.{ℕ_discrete}
use native.Mathlib.Omega.{arith}
use lib.Dec.{T}
use lib.Seq.{get_or-drop}
use borrow.Author.Tests.{ltb-true, ltb-false, ne_eqb}
use Rattle.numbers.specs.Refusals.{first_told}
use Rattle.numbers.specs.Slots.{slots_of_day}
use Rattle.numbers.specs.Words.{word32}
use Rattle.numbers.proofs.Refusals.{numbered, passed, both_accepted}
use Rattle.numbers.proofs.NeverTold.{Without, told_within}
use Rattle.readings.specs.Readings.{reading_length, most_reading, first_large}
use Rattle.readings.proofs.Large.{first_bound, none_large, first_is_large, first_is_first}
use Rattle.points.specs.Points.{Kind, consumer, consumer_tag, kind_of, readings_of, readings_in, is_unfit, large_at, has_large}
use Rattle.points.specs.Points.{is_of_test_day, large_number, unfit_row, value_rows, is_of_reading, index_told}
use Rattle.points.specs.TooLarge.{reading_at, IsFirstLarge, TellsReading}
use Rattle.points.proofs.PointKinds.{of_tag, is_of_reading_or17, unfit_above, unfit_other, unfit, large, large_number_lem, large_above, large_other, values_numbered, all_small}

-- ---- the readings of a value

module _ (kind : Kind) (value : List ℕ) where
  reading_is : (i : ℕ) → word32 (readings_of kind value) (i * reading_length) ≡ reading_at kind value i
  reading_is i = simp (get_or-drop, add_assoc)

  first_large_is : has_large kind value ≡ true → IsFirstLarge kind value (large_at kind value)
  first_large_is e =
      let readings = readings_of kind value in
      let within = ltb-true _ _ e in
      record {
        within = within;
        large = rw (reading_is (large_at kind value)) at (first_is_large readings (readings_in kind) within);
        before = λ i h. rw (reading_is i) at (first_is_first readings (readings_in kind) i h);
      }

  -- no large reading was told
  pub all_tested : has_large kind value ≡ false → first_large (readings_of kind value) (readings_in kind) ≡ readings_in kind
  all_tested e =
      let readings = readings_of kind value in
      let n = readings_in kind in
      le_antisymm (first_bound readings n) (ltb-false (first_large readings n) n e)

  none_is_large : has_large kind value ≡ false → (i : ℕ) → i < readings_in kind → reading_at kind value i ≤ most_reading
  none_is_large e i h = rw (reading_is i) at (none_large (readings_of kind value) (readings_in kind) i (all_tested e) h)

  one_is_large : (i : ℕ) → i < readings_in kind → most_reading < reading_at kind value i → has_large kind value ≡ true
  one_is_large i h above = go (has_large kind value) refl
    where
      go : (t : Bool) → has_large kind value ≡ t → t ≡ true
      go true e = refl
      go false e = absurd (omega (arith, none_is_large e i h))

-- ---- the number, by the index

of_consumer : (index number : ℕ) → large_number consumer index ≡ number → (number ≡ 51 → index < slots_of_day) × (number ≡ 52 → slots_of_day ≤ index)
of_consumer index number e = go (is_of_test_day index) refl e
  where
    go : (t : Bool) → is_of_test_day index ≡ t → cond t 51 52 ≡ number → (number ≡ 51 → index < slots_of_day) × (number ≡ 52 → slots_of_day ≤ index)
    go true p e = (λ z. ltb-true index slots_of_day p, λ z. absurd (omega arith))
    go false p e = (λ z. absurd (omega arith), λ z. ltb-false index slots_of_day p)

-- ---- a table with the rows of a value in it

module _ (tag : ℕ) (value : List ℕ) where
  -- a number about a reading is told of a large one, in a value that fits
  value_told : is_of_reading_or17 (first_told (value_rows tag value)) ≡ true
      → (first_told (unfit_row tag value) ≡ 0) × (has_large (kind_of tag) value ≡ true) × (first_told (value_rows tag value) ≡ large tag value)
  value_told t = go (is_unfit (kind_of tag) value) (has_large (kind_of tag) value) t
    where
      go : (u l : Bool) → is_of_reading_or17 (cond u (unfit tag value) (cond l (large tag value) 0)) ≡ true
          → (cond u (unfit tag value) 0 ≡ 0) × (l ≡ true) × (cond u (unfit tag value) (cond l (large tag value) 0) ≡ large tag value)
      go true l t = absurd (true≢false (sym t ∙ unfit_other (kind_of tag)))
      go false true t = (refl, refl, refl)
      go false false t = absurd (true≢false (sym t))

  module _ (before after : List (Bool × ℕ)) (k : T (numbered before)) (b : Without is_of_reading_or17 before) (a : Without is_of_reading_or17 after)
      {refusal : ℕ} (e : refusal ≡ first_told (before ++ (value_rows tag value ++ after))) where
    -- of a refusal about a reading
    told_large : is_of_reading_or17 refusal ≡ true
        → (first_told (before ++ unfit_row tag value) ≡ 0) × (has_large (kind_of tag) value ≡ true) × (refusal ≡ large tag value)
    told_large t =
        let w = told_within is_of_reading_or17 before (value_rows tag value) after k (values_numbered tag value) refl b a (ap is_of_reading_or17 (sym e) ∙ t) in
        let l = value_told (ap is_of_reading_or17 (sym w.1 ∙ sym e) ∙ t) in
        (passed before (unfit_row tag value) k w.0 ∙ l.0, l.1, e ∙ w.1 ∙ l.2)

    -- 17 is not told
    pub not_seventeen : refusal ≡ 17 → ⊥
    not_seventeen z = omega (arith, (told_large (ap is_of_reading_or17 z)).2, large_above (large_number_lem (kind_of tag) (large_at (kind_of tag) value)))

    -- a large reading is told behind rows that tell none
    large_is_told : first_told (before ++ unfit_row tag value) ≡ 0 → has_large (kind_of tag) value ≡ true → refusal ≡ large tag value
    large_is_told z l = e ∙ passed before (value_rows tag value ++ after) k both.0 ∙ go (is_unfit (kind_of tag) value) (has_large (kind_of tag) value) both.1 l
      where
        both : (first_told before ≡ 0) × (first_told (unfit_row tag value) ≡ 0)
        both = both_accepted before (unfit_row tag value) k z

        go : (u l : Bool) → cond u (unfit tag value) 0 ≡ 0 → l ≡ true → cond u (unfit tag value) (cond l (large tag value) (first_told after)) ≡ large tag value
        go true l z t = absurd (omega (arith, unfit_above (kind_of tag)))
        go false true z t = refl
        go false false z t = absurd (true≢false (sym t))

    module _ {index : ℕ} (i : index ≡ index_told refusal tag value) where
      index_is : is_of_reading refusal ≡ true → index ≡ large_at (kind_of tag) value
      index_is t = i ∙ simp t

      first_is : is_of_reading refusal ≡ true → has_large (kind_of tag) value ≡ true → IsFirstLarge (kind_of tag) value index
      first_is t l = rw (index_is t) (first_large_is (kind_of tag) value l)

      -- of a consumer, by the index
      consumer_is : is_of_reading refusal ≡ true → refusal ≡ large tag value → tag ≡ consumer_tag → (refusal ≡ 51 → index < slots_of_day) × (refusal ≡ 52 → slots_of_day ≤ index)
      consumer_is t l c =
          let number = ap (λ kind. large_number kind (large_at (kind_of tag) value)) (sym (of_tag tag consumer_tag c)) ∙ sym l in
          rw (index_is t) (of_consumer (large_at (kind_of tag) value) refusal number)

      is_consumer : refusal ≡ large tag value → refusal ≡ 52 → tag ≡ consumer_tag
      is_consumer l z = go (ℕ_discrete tag consumer_tag)
        where
          go : Dec (tag ≡ consumer_tag) → tag ≡ consumer_tag
          go (yes c) = c
          go (no n) = absurd (let f : 51 ≡ 52 = sym (large_other tag (large_at (kind_of tag) value) n) ∙ sym l ∙ z in omega arith)

      none_where_accepted : refusal ≡ 0 → has_large (kind_of tag) value ≡ false
      none_where_accepted z =
          let rest = (both_accepted before (value_rows tag value ++ after) k (sym e ∙ z)).1 in
          all_small tag value (both_accepted (value_rows tag value) after (values_numbered tag value) rest).0

      pub tells_reading : TellsReading (before ++ unfit_row tag value) tag value refusal index
      tells_reading = record {
        told = λ z j h above. rw (large_is_told z (one_is_large (kind_of tag) value j h above)) (large_number_lem (kind_of tag) (large_at (kind_of tag) value));
        test_day = λ z. let l = told_large (ap is_of_reading_or17 z) in let t = ap is_of_reading z in (first_is t l.1, λ c. (consumer_is t l.2 c).0 z);
        days_back = λ z.
            let l = told_large (ap is_of_reading_or17 z) in
            let t = ap is_of_reading z in
            let c = is_consumer l.2 z in
            (first_is t l.1, c, (consumer_is t l.2 c).1 z);
        place = ⊎_elim (λ z. (told_large (ap is_of_reading_or17 z)).0) (λ z. (told_large (ap is_of_reading_or17 z)).0);
        other = λ n m. i ∙ simp (ne_eqb refusal 51 n, ne_eqb refusal 52 m);
        accepted = λ z. none_is_large (kind_of tag) value (none_where_accepted z);
      }
