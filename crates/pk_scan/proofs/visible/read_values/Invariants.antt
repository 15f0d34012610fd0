use Rattle.pk_scan.{specs.Used.held_limits, specs.Adopts.owned_blocks, specs.Board.StaysReady, specs.Opening.OnlyReads, proofs.ValuesHeld.TakenTo}
use Rattle.std.proofs.Common.{◌≡◌, length}
use Rattle.pk_scan.proofs.visible.read_values.Given as goal

abbrev pub invariant-loop-keys : goal.invariant-loop-keys
invariant-loop-keys g l = record {
  taken : TakenTo l.shape l.lists.arena.now l.lists.levels.now.runs l.lists.active.now.entries l.lists.frozen.now.entries
      (held_limits l.named.root.now) (owned_blocks l.named.pool.now) l.initial.walk l.walk l.live l.spaces (g.B.Nand.state l.initial.board) (g.B.Nand.state l.board) l.keys;
  walk : l.walk.shape ≡ l.shape;
  reads : OnlyReads (g.B.Nand.state l.initial.board) (g.B.Nand.state l.board);
  board : StaysReady l.shape (g.B.Nand.state l.initial.board) (g.B.Nand.state l.board);
  buffer : length l.buf ≡ l.shape.page_bytes;
}
