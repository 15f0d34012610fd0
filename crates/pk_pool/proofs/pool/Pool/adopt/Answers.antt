use Rattle.pk_pool.{specs.declared.state.BlockState.TheVariants.Owned, proofs.States.owned_is_not_ready, proofs.Fitting.PoolOnFlash-marked, proofs.Sharing.shared_adopted, proofs.Sharing.used_adopted}
use Rattle.pk_pool.proofs.pool.Pool.adopt.Goals as goal

pub invariant_of-self : goal.invariant_of-self
invariant_of-self g c = let r = rw (← c.self.view_is) at c.requires in shared_adopted _ _ _ _ r.free c.self.invariant r.below

pub returns-clause-counted : goal.returns-clause-counted
returns-clause-counted g c = let r = rw (← c.self.view_is) at c.requires in rw (← c.self.view_is) (used_adopted c.self.inside.plan c.self.inside.states.items c.args.block c.args.owner r.free)

pub returns-clause-fits : goal.returns-clause-fits
returns-clause-fits g c = rw (← c.self.view_is) (λ flash fits. PoolOnFlash-marked _ flash c.args.block (Owned c.args.owner) owned_is_not_ready fits)
