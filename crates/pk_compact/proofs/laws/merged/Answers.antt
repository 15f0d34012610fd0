use Rattle.pk_compact.proofs.Freed.{apart_merged}
use Rattle.pk_compact.proofs.laws.merged.Goals as goal

pub returns : goal.returns
returns c = apart_merged
