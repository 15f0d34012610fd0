use Rattle.pk_pool.proofs.Fitting.{PoolOnFlash-erase}
use Rattle.pk_pool.proofs.laws.erase_elsewhere.Goals as goal

pub returns : goal.returns
returns c = PoolOnFlash-erase
