use Rattle.pk_pool.proofs.pool.Pool.used.Goals as goal

pub returns-clause-most : goal.returns-clause-most
returns-clause-most g c = rw (c.count_used.ensures, c.deref.ensures.value, ← c.self.view_is) (c.self.invariant.within c.args.owner)
