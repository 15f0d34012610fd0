use Rattle.pk_pool.{specs.declared.state.BlockState.TheVariants.Leaving, proofs.States.leaving_is_not_ready, proofs.Fitting.PoolOnFlash-marked, proofs.Leaving.freed_set}
use Rattle.pk_pool.proofs.pool.Pool.leave.Goals as goal

pub returns-clause-freed : goal.returns-clause-freed
returns-clause-freed g c = rw (← c.self.view_is) (freed_set _ c.args.block (Leaving c.in-Owned.owner))

pub returns-clause-fits : goal.returns-clause-fits
returns-clause-fits g c = rw (← c.self.view_is) (λ flash fits. PoolOnFlash-marked _ flash c.args.block (Leaving c.in-Owned.owner) leaving_is_not_ready fits)
