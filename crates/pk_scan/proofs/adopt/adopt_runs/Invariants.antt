use Rattle.pk_scan.proofs.Adopting.{RunsAdopting}
use Rattle.pk_scan.proofs.adopt.adopt_runs.Given as goal

abbrev pub invariant-loop-i : goal.invariant-loop-i
invariant-loop-i g l = RunsAdopting l.root.root.runs l.initial.pool l.pool l.i
