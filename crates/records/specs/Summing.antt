-- One record more among the sums, and when that fits: words that contracts use.
use Rattle.std.specs.Prelude.{◌+◌, ◌<◌, ◌^◌, nat_abs, ◌+ℤ◌}
use Rattle.records.specs.declared.Record.{Record}
use Rattle.records.specs.declared.Sums.{Sums}

abbrev pub sums_with : Sums → Record → Sums
sums_with sums r = record {
  records = sums.records + 1;
  points = sums.points +ℤ r.points;
  total = sums.total +ℤ r.total;
  settled = sums.settled +ℤ r.settled;
  shortfall = sums.shortfall +ℤ r.shortfall;
  expected = sums.expected +ℤ r.expected;
  kept = sums.kept +ℤ r.kept;
  surplus = sums.surplus +ℤ r.surplus;
}

-- the sizes leave room for it
pub record Room (sums : Sums) (r : Record) : Type 0 where
  pub records : sums.records + 1 < 2 ^ 32
  pub points : nat_abs sums.points + nat_abs r.points < 2 ^ 63
  pub total : nat_abs sums.total + nat_abs r.total < 2 ^ 63
  pub settled : nat_abs sums.settled + nat_abs r.settled < 2 ^ 63
  pub shortfall : nat_abs sums.shortfall + nat_abs r.shortfall < 2 ^ 63
  pub expected : nat_abs sums.expected + nat_abs r.expected < 2 ^ 63
  pub kept : nat_abs sums.kept + nat_abs r.kept < 2 ^ 63
  pub surplus : nat_abs sums.surplus + nat_abs r.surplus < 2 ^ 63
