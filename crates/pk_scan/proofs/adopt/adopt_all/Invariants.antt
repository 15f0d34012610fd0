use Rattle.pk_scan.proofs.Adopting.{Adopting}
use Rattle.pk_scan.proofs.adopt.adopt_all.Given as goal

abbrev pub invariant-loop-block : goal.invariant-loop-block
invariant-loop-block g l = Adopting l.owner l.blocks l.initial.pool l.pool l.block-index
