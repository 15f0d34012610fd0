use Rattle.pk_scan.proofs.Closing.{ValuesAdopting}
use Rattle.pk_scan.proofs.adopt.adopt_values.Given as goal

abbrev pub invariant-loop-block : goal.invariant-loop-block
invariant-loop-block g l = ValuesAdopting l.live l.initial.pool l.pool l.block
