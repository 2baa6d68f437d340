-- A book that gives 0 is read in full, and its figures are those of the calls on the values handed on. Assumes nothing.
use mathlib.Core.Path.{◌≡◌, refl, ap}
use mathlib.Core.List.{List, [], ◌∷◌, ◌++◌, map}
use Prim.Native.Nat.{ℕ}
use Rattle.ledger.specs.Operations.{close_of}
use Rattle.ledger.specs.declared.State.{State}
use Rattle.calls.specs.Calls.{accepted, closed, reply_of, replies, program}
use Rattle.book.specs.Reading.{Points}
use Rattle.book.specs.Settling.{settling_refusal}
use Rattle.book.proofs.Readings.{Points-read, none, more, book_read}
use Rattle.book.proofs.Endings.{closed_reads}
use Rattle.book.proofs.Closings.{closes}
use Rattle.round_trips.specs.Demand2.{calls_of, GivesFigures}

points_replies : {n : ℕ} {state : State} {left : List ℕ} {x : Points} → Points-read n state left x
    → replies state (calls_of x.points) ≡ map (λ p. accepted) x.points ++ reply_of (close_of x.state).refusal (closed (close_of x.state).figures) ∷ []
unfolding replies
points_replies (none e) = refl
points_replies (more {part} cut e read) = rw e (ap (λ rs. accepted ∷ rs) (points_replies read))

pub gives_figures : GivesFigures
unfolding settling_refusal program
gives_figures book zero =
    let read = closed_reads book zero in
    let k = book_read book read.0 read.1 in
    let shut = closes book read.0 read.1 in (
      read.0,
      read.1,
      rw k.is (rw (k.opens, points_replies k.points_read)
          (ap (λ n. accepted ∷ map (λ p. accepted) k.points.points ++ reply_of n (closed (close_of k.points.state).figures) ∷ []) (rw k.is at shut))),
    )
