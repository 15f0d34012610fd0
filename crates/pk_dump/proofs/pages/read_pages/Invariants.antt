use Rattle.std.proofs.Common.{◌≡◌, length, take}
use Rattle.pk_nand.specs.Seen.{states}
use Rattle.pk_scan.specs.Board.{StaysReady}
use Rattle.pk_dump.specs.Pages.{AreFull}
use Rattle.pk_dump.proofs.pages.read_pages.Given as goal

abbrev pub invariant-loop-page : goal.invariant-loop-page
invariant-loop-page g l = record {
  board : StaysReady l.shape (g.B.Nand.state l.initial.board) (g.B.Nand.state l.board);
  buffer : length l.buf ≡ l.shape.page_bytes;
  so_far : states l.pages.items ≡ take l.page (g.B.Nand.state l.initial.board).pages;
  full : AreFull l.shape l.pages.items;
}
