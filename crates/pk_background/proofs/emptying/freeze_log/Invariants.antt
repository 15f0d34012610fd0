use Rattle.pk_background.{specs.Emptying.freeze_left_of, proofs.Emptied.Ongoing}
use Rattle.pk_background.proofs.emptying.freeze_log.Given as goal

abbrev pub invariant-freezes : goal.invariant-freezes
invariant-freezes g l = Ongoing l.initial.parts (g.B.Nand.state l.initial.board) l.parts (g.B.Nand.state l.board)

abbrev pub decreases-freezes : goal.decreases-freezes
decreases-freezes g l = freeze_left_of l.parts
