-- The starred examples hold, by computing. Assumes nothing.
use mathlib.Core.Path.{◌≡◌, refl}
use mathlib.Core.List.{[], ◌∷◌, ◌++◌}
use lib.IntN.{pos, neg_ℤ}
use lib.ListN.{replicate}
use Rattle.numbers.specs.Lists.{run, sum, filter, any, gather, same}
use Rattle.integers.specs.Integers.{sum_ℤ}
use Rattle.numbers.specs.Words.{bytes_of}
use Rattle.numbers.specs.PointNumbers.{digits, is_number, below}
use Rattle.calendar.specs.Dates.{is_date, day_count}
use Rattle.readings.specs.Readings.{first_large, window_sums, slot_sums, earlier_use}
use Rattle.baseline.specs.Baseline.{day_sums}
use Rattle.choosing.specs.Choosing.{walk, picked, returned, used, chosen}
use Rattle.heads.specs.Heads.{head_of, content_refusal, opening_refusal}
use Rattle.results.specs.SlotResults.{quotients}
use Rattle.ledger.specs.States.{is_unsound}
use Rattle.figures.specs.Figures.{figures_of}
use Rattle.ledger.specs.Operations.{open_of, adding_refusal, add_of, places_of}
use Rattle.worked_examples.specs.Examples.{StarredExamples, examples, high_voltage, places_with, baselines_with, state_with, plain, six}

C : plain ((add_of (state_with (replicate 30 1)) 3 (high_voltage 1_200 240) 6).refusal ∷ []) ≡ plain (18 ∷ [])
unfolding run sum filter any gather bytes_of digits same is_number below is_date day_count first_large window_sums slot_sums day_sums earlier_use walk picked returned used chosen head_of content_refusal opening_refusal quotients is_unsound open_of adding_refusal high_voltage add_of
C = refl

H : places_with 1_200 240 ≡ six (pos 1_000)
unfolding run sum filter any gather bytes_of digits same is_number below is_date day_count first_large window_sums slot_sums day_sums earlier_use walk picked returned used chosen head_of content_refusal opening_refusal quotients is_unsound open_of adding_refusal high_voltage places_of places_with
H = refl

I : places_with 1_200 241 ≡ six (pos 998)
unfolding run sum filter any gather bytes_of digits same is_number below is_date day_count first_large window_sums slot_sums day_sums earlier_use walk picked returned used chosen head_of content_refusal opening_refusal quotients is_unsound open_of adding_refusal high_voltage places_of places_with
I = refl

J : places_with 1_200 1_201 ≡ six (neg_ℤ (pos 2))
unfolding run sum filter any gather bytes_of digits same is_number below is_date day_count first_large window_sums slot_sums day_sums earlier_use walk picked returned used chosen head_of content_refusal opening_refusal quotients is_unsound open_of adding_refusal high_voltage places_of places_with
J = refl

K : plain (baselines_with 0 240) ++ places_with 0 240 ≡ six (pos 0) ++ six (neg_ℤ (pos 250))
unfolding run sum filter any gather bytes_of digits same is_number below is_date day_count first_large window_sums slot_sums day_sums earlier_use walk picked returned used chosen head_of content_refusal opening_refusal quotients is_unsound open_of adding_refusal high_voltage places_of places_with baselines_with
K = refl

pub starred_examples : StarredExamples
unfolding examples run sum filter day_count walk picked returned used chosen sum_ℤ figures_of
starred_examples = (refl, (refl, (C, (refl, (refl, (refl, (refl, (H, (I, (J, (K, (refl, (refl, (refl, tt))))))))))))))
