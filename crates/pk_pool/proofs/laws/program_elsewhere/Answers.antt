use Rattle.pk_pool.proofs.Fitting.{PoolOnFlash-program}
use Rattle.pk_pool.proofs.laws.program_elsewhere.Goals as goal

pub returns : goal.returns
returns c = PoolOnFlash-program
