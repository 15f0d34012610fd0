use Rattle.pk_redo.proofs.Batches as batches
use Rattle.pk_redo.proofs.laws.reads_once.Goals as goal

pub returns : goal.returns
returns c = batches.reads_once
