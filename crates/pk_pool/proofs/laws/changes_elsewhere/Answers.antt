use Rattle.pk_pool.proofs.Fitting.{PoolOnFlash-outside}
use Rattle.pk_pool.proofs.laws.changes_elsewhere.Goals as goal

pub returns : goal.returns
returns c = PoolOnFlash-outside
