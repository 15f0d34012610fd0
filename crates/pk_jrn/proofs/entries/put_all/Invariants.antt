use Rattle.pk_jrn.proofs.Replaying.{Putting}
use Rattle.pk_jrn.proofs.entries.put_all.Given as goal

abbrev pub invariant-loop-i : goal.invariant-loop-i
invariant-loop-i g l = Putting l.shape l.page l.count l.initial.into l.into l.i
