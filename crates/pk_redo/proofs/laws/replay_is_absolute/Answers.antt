use Rattle.pk_redo.proofs.Replaying as replay
use Rattle.pk_redo.proofs.laws.replay_is_absolute.Goals as goal

pub returns : goal.returns
returns c = replay.replay_is_absolute
