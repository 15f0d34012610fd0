use Rattle.pk_mirror.{specs.Agreement.IsPart, specs.Agreement.HaveSame, specs.Ranks.keys_left, specs.Spending.ToStore, proofs.PageLemmas.IsTurning}
use Rattle.pk_nvme.specs.declared.opcode.TheConstants.{STORE}
use Rattle.pk_mirror.proofs.resync.copy_all.Given as goal

abbrev pub invariant-loop-next : goal.invariant-loop-next
invariant-loop-next g l = IsTurning g.P.Port.state g.P.Port.took g.Q.Port.state g.Q.Port.took IsPart ToStore STORE HaveSame l.initial.first l.first l.initial.second l.second l.last

abbrev pub decreases-loop-next : goal.decreases-loop-next
decreases-loop-next g l = keys_left l.last
