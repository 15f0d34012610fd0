use Rattle.pk_walk.proofs.Walks.{Walking, many_left}
use Rattle.pk_walk.proofs.walk.Walk.next.Given as goal

abbrev pub invariant-loop-entry : goal.invariant-loop-entry
invariant-loop-entry g l = record {
  walking : Walking l.levels.runs l.arena l.active.entries l.frozen.entries l.levels.shape (g.B.Nand.state l.fn.board) (g.B.Nand.state l.board) l.fn.self l.self;
}

abbrev pub decreases-loop-entry : goal.decreases-loop-entry
decreases-loop-entry g l = many_left (g.B.Nand.state l.board).pages l.levels.runs l.active.entries l.frozen.entries l.self.position
