use Rattle.std.proofs.Common.{◌≤◌, ℕ, sym, subst, ◌==◌}
use Rattle.pk_base.specs.Shape.{page_entries}
use Rattle.pk_merge.proofs.Filling.{many_from}
use Rattle.pk_merge.proofs.gathered.Gathered.is_full.Goals as goal

pub returns-clause-full : goal.returns-clause-full
returns-clause-full g c = rw (← c.self.view_is) (λ i. sym (many_from 32 c.self.inside.count c.self.inside.page.items) i == c.entries.ensures.value i)

pub returns-clause-bound : goal.returns-clause-bound
returns-clause-bound g c =
    rw (← c.self.view_is) (subst (λ (n : ℕ). n ≤ page_entries c.self.inside.shape) (sym (many_from 32 c.self.inside.count c.self.inside.page.items)) c.self.invariant.most)
