use Rattle.std.proofs.Common.{take}
use Rattle.pk_mirror.{specs.Agreement.AreAny, specs.Agreement.NoOther, specs.Spending.ToDelete, proofs.VisitLemmas.IsVisiting}
use Rattle.pk_nvme.specs.declared.opcode.TheConstants.{DELETE}
use Rattle.pk_mirror.proofs.visiting.drop_others.Given as goal

abbrev pub invariant-loop-i : goal.invariant-loop-i
invariant-loop-i g l = IsVisiting g.P.Port.state g.P.Port.took g.Q.Port.state g.Q.Port.took AreAny ToDelete DELETE NoOther l.initial.first l.first l.initial.second l.second (take l.i l.page)
