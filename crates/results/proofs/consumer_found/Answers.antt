-- No four days, or the results on the chosen ones: by what the day choice and the baseline promise. Assumes nothing.
use mathlib.Core.Path.{◌≡◌, sym, ◌∙◌}
use borrow.Author.Rules.{rules}
use borrow.Author.Tests.{not-false}
use lib.ListN.{length}
use Rattle.numbers.specs.Slots.{days_used}
use Rattle.numbers.proofs.Parts.{rest_of}
use Rattle.points.specs.Points.{consumer_readings_at, class_of}
use Rattle.points.proofs.Classes.{is_one, numbered}
use Rattle.results.proofs.Consumers.{dated, lossy, tested, too_few, baselines_small, consumer_results}
use Rattle.results.proofs.consumer_found.Goals as goal

pub day_count-test-requires : goal.day_count-test-requires
day_count-test-requires c = dated c.requires

pub invariant_of-consumer : goal.invariant_of-consumer
invariant_of-consumer c = record { within = rw (c.from.ensures, rest_of c.args.value.now consumer_readings_at) (tested c.requires).window }

pub invariant_of-consumer-2 : goal.invariant_of-consumer-2
invariant_of-consumer-2 c = record { tested = rw (c.from.ensures, rest_of c.args.value.now consumer_readings_at) (tested c.requires) }

pub returns-in_err-days : goal.returns-in_err-days
returns-in_err-days c =
    c.from_residual.ensures ∙ sym (too_few c.requires c.day_count-test.ensures.counted (rw c.from.ensures at c.in_err-days.ensures))

-- behind the choice of days, there are four

pub unwrap-class-requires : goal.unwrap-class-requires
unwrap-class-requires c = is_one (class_of c.args.value.now) c.try_from.result c.try_from.ensures (not-false _ c.requires.fit)

pub consumer_results-found-requires : goal.consumer_results-found-requires
consumer_results-found-requires c =
    let class = numbered (class_of c.args.value.now) c.try_from.result c.try_from.ensures c.unwrap-class.ensures in
    let four : length c.in_ok-days.days.back ≡ days_used = search rules in (
      rw (c.loss-loss.ensures, class) (lossy c.requires),
      baselines_small c.requires c.day_count-test.ensures.counted four (rw c.from.ensures at c.in_ok-days.ensures) (rw c.from.ensures at c.baselines_on-slots.ensures),
    )

pub returns : goal.returns
returns c =
    let class = numbered (class_of c.args.value.now) c.try_from.result c.try_from.ensures c.unwrap-class.ensures in
    let four : length c.in_ok-days.days.back ≡ days_used = search rules in
    let found = consumer_results c.requires c.day_count-test.ensures.counted four (rw c.from.ensures at c.in_ok-days.ensures) (rw c.from.ensures at c.baselines_on-slots.ensures) in
    rw (c.consumer_results-found.ensures, c.loss-loss.ensures, class, c.from.ensures, rest_of c.args.value.now consumer_readings_at) (sym found)
