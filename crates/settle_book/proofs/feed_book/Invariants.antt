-- What has come so far is the front of a book, and the feedings that are left are enough for the rest.
use Rattle.std.proofs.Common.{◌≡◌, ◌-◌, length}
use Rattle.points.specs.Points.{consumer_length}
use Rattle.feeding.specs.Coming.{Coming}
use Rattle.feeding.specs.Told.{progress_told}
use Rattle.settle_book.proofs.feed_book.Given as goal

abbrev pub invariant-loop : goal.invariant-loop
invariant-loop g l = (length l.buffer ≡ consumer_length) × Coming (l.end - l.counter) (progress_told l.progress)
