use Rattle.pk_jrn.proofs.Journals.{reads_same}
use Rattle.pk_jrn.proofs.laws.reads_elsewhere.Goals as goal

pub returns : goal.returns
returns c = reads_same
