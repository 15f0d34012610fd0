use Rattle.std.proofs.Common.{◌≡◌, length, take}
use Rattle.pk_nand.specs.Counts.{after_reads}
use Rattle.pk_scan.{specs.Board.StaysReady, specs.Reads.pages_of_runs, proofs.RunsHeld.RunsTo}
use Rattle.pk_scan.proofs.levels.load_runs.Given as goal

abbrev pub invariant-loop-place : goal.invariant-loop-place
invariant-loop-place g l = record {
  runs : RunsTo l.root.shape l.root.root (g.B.Nand.state l.initial.board).pages l.initial.levels.pinned l.initial.arena l.arena l.levels l.place;
  reads : g.B.Nand.state l.board ≡ after_reads (pages_of_runs l.root.shape (take l.place l.root.root.counts)) (g.B.Nand.state l.initial.board);
  board : StaysReady l.root.shape (g.B.Nand.state l.initial.board) (g.B.Nand.state l.board);
  buffer : length l.buf ≡ l.root.shape.page_bytes;
}
