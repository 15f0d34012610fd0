use Rattle.std.proofs.Common.{◌-◌}
use Rattle.pk_nand.specs.Calls.{IsReady}
use Rattle.pk_walk.proofs.Seeking.{Seeking}
use Rattle.pk_walk.proofs.seek.search.Given as goal

abbrev pub invariant-loop-cursor : goal.invariant-loop-cursor
invariant-loop-cursor g l = record {
  ready : IsReady (g.B.Nand.state l.board) l.run.shape;
  seeking : Seeking l.run l.arena l.position (g.B.Nand.state l.fn.board) (g.B.Nand.state l.board) l.fn.cursor l.cursor;
}

abbrev pub decreases-loop-cursor : goal.decreases-loop-cursor
decreases-loop-cursor g l = l.run.count - l.cursor.place
