use Rattle.pk_pool.proofs.Leaving.{shared_freed, none_leaves, freed_used, freed_fits}
use Rattle.pk_pool.proofs.pool.Pool.free_left.Goals as goal

pub invariant_of-self : goal.invariant_of-self
invariant_of-self g c = rw c.release.ensures (shared_freed _ _ c.self.invariant)

pub returns-clause-none : goal.returns-clause-none
returns-clause-none g c = rw c.release.ensures (none_leaves (record { shape = c.self.inside.plan; states = c.self.inside.states.items }))

pub returns-clause-counted : goal.returns-clause-counted
returns-clause-counted g c = rw (c.release.ensures, ← c.self.view_is) (freed_used (record { shape = c.self.inside.plan; states = c.self.inside.states.items }))

pub returns-clause-fits : goal.returns-clause-fits
returns-clause-fits g c = rw (c.release.ensures, ← c.self.view_is) (freed_fits (record { shape = c.self.inside.plan; states = c.self.inside.states.items }))
