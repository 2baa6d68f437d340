-- A sound state has small totals.
use Rattle.ledger.proofs.Sound.{sound, unsound_passed, total_small}
use Rattle.ledger.proofs.close.Goals as goal

pub figures_of-requires : goal.figures_of-requires
figures_of-requires c = rw c.slot_totals-totals.ensures (total_small c.args.state (sound c.args.state (unsound_passed c.args.state c.in_ok-unsound_refusal.ensures)))
