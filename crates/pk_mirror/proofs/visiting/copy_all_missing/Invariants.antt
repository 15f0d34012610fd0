use Rattle.std.proofs.Common.{take}
use Rattle.pk_mirror.{specs.Agreement.IsPart, specs.Agreement.HaveSame, specs.Spending.ToStore, proofs.VisitLemmas.IsVisiting}
use Rattle.pk_nvme.specs.declared.opcode.TheConstants.{STORE}
use Rattle.pk_mirror.proofs.visiting.copy_all_missing.Given as goal

abbrev pub invariant-loop-i : goal.invariant-loop-i
invariant-loop-i g l = IsVisiting g.P.Port.state g.P.Port.took g.Q.Port.state g.Q.Port.took IsPart ToStore STORE HaveSame l.initial.first l.first l.initial.second l.second (take l.i l.page)
