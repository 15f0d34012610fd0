use Rattle.std.proofs.Common.{sym}
use Rattle.pk_merge.proofs.Filling.{many_from}
use Rattle.pk_merge.proofs.gathered.Gathered.len.Goals as goal

pub returns : goal.returns
returns g c = rw (← c.self.view_is) (sym (many_from 32 c.self.inside.count c.self.inside.page.items))
