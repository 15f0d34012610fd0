use Rattle.pk_jrn.proofs.Places.{same_elsewhere}
use Rattle.pk_jrn.proofs.laws.changes_elsewhere.Goals as goal

pub returns : goal.returns
returns c = same_elsewhere
