use Rattle.pk_pool.{specs.declared.state.BlockState.TheVariants.Free, proofs.States.free_is_not_ready, proofs.Fitting.PoolOnFlash-marked, proofs.Sharing.shared_given, proofs.Sharing.used_given}
use Rattle.pk_pool.proofs.pool.Pool.give.Goals as goal

pub invariant_of-self : goal.invariant_of-self
invariant_of-self g c = let r = rw (← c.self.view_is) at c.requires in shared_given _ _ _ r.0 r.1 c.self.invariant

pub returns-clause-counted : goal.returns-clause-counted
returns-clause-counted g c = rw (← c.self.view_is) (λ o. used_given c.self.inside.states.items c.args.block o)

pub returns-clause-fits : goal.returns-clause-fits
returns-clause-fits g c = rw (← c.self.view_is) (λ flash fits. PoolOnFlash-marked _ flash c.args.block Free free_is_not_ready fits)
