use Rattle.pk_redo.proofs.Stepping as stepping
use Rattle.pk_redo.proofs.laws.steps_read_once.Goals as goal

pub returns : goal.returns
returns c = stepping.steps_read_once
