-- What the progress of the code is in the definitions. A refusal ends the reading: no progress is left of it.
use Rattle.std.specs.Prelude.{Result, Ok, Err}
use Rattle.refusals.specs.declared.Refusal.{Refusal}
use Rattle.refusals.specs.Told.{number_of}
use Rattle.feeding.specs.Feeding.{Progress, refused_at}
use Rattle.feeding.specs.declared.Progress.{Progress as Held}

abbrev pub progress_told : Held → Progress
progress_told p = record { wait = p.wait; head = p.head; state = p.state; refusal = 0 }

-- of the progress that was fed
abbrev pub fed_told : Held → Result Held Refusal → Progress
fed_told p (Ok after) = progress_told after
fed_told p (Err refusal) = refused_at (number_of refusal) (progress_told p)
