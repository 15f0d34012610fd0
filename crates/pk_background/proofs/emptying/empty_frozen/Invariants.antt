use Rattle.pk_background.{specs.Emptying.merges_left, proofs.Emptied.Emptying}
use Rattle.pk_background.proofs.emptying.empty_frozen.Given as goal

abbrev pub invariant-merges : goal.invariant-merges
invariant-merges g l = Emptying l.initial.parts (g.B.Nand.state l.initial.board) l.parts (g.B.Nand.state l.board)

abbrev pub decreases-merges : goal.decreases-merges
decreases-merges g l = merges_left l.parts
