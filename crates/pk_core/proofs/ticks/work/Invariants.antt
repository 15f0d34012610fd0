use Rattle.pk_core.proofs.Stepping.{Ongoing}
use Rattle.pk_core.proofs.ticks.work.Given as goal

abbrev pub invariant-loop-made : goal.invariant-loop-made
invariant-loop-made g l = Ongoing l.initial.parts (g.B.Nand.state l.initial.board) l.parts (g.B.Nand.state l.board) l.made
