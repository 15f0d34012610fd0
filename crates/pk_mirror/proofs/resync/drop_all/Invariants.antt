use Rattle.pk_mirror.{specs.Agreement.AreAny, specs.Agreement.NoOther, specs.Ranks.keys_left, specs.Spending.ToDelete, proofs.PageLemmas.IsTurning}
use Rattle.pk_nvme.specs.declared.opcode.TheConstants.{DELETE}
use Rattle.pk_mirror.proofs.resync.drop_all.Given as goal

abbrev pub invariant-loop-next : goal.invariant-loop-next
invariant-loop-next g l = IsTurning g.P.Port.state g.P.Port.took g.Q.Port.state g.Q.Port.took AreAny ToDelete DELETE NoOther l.initial.first l.first l.initial.second l.second l.last

abbrev pub decreases-loop-next : goal.decreases-loop-next
decreases-loop-next g l = keys_left l.last
