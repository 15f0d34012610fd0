use Rattle.pk_background.{specs.Spacing.space_left, proofs.SpaceSteps.Spacing}
use Rattle.pk_background.proofs.space.reclaim_for.Given as goal

abbrev pub invariant-reclaims : goal.invariant-reclaims
invariant-reclaims g l = Spacing l.count l.initial.parts (g.B.Nand.state l.initial.board) l.parts (g.B.Nand.state l.board)

abbrev pub decreases-reclaims : goal.decreases-reclaims
decreases-reclaims g l = space_left l.count l.parts
