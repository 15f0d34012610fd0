use Rattle.pk_reclaim.proofs.Room.{freeze_makes_room}
use Rattle.pk_reclaim.proofs.laws.behind_freeze.Goals as goal

pub returns : goal.returns
returns c = freeze_makes_room
