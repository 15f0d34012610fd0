use Rattle.std.proofs.Common.{ℕ, sym, ap, ◌==◌}
use Rattle.pk_merge.proofs.Filling.{many_from}
use Rattle.pk_merge.proofs.gathered.Gathered.is_empty.Goals as goal

pub returns : goal.returns
returns g c = rw (← c.self.view_is) (ap (λ (n : ℕ). n == 0) (sym (many_from 32 c.self.inside.count c.self.inside.page.items)))
