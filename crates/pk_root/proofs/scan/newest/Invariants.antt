use Rattle.std.proofs.Common.{◌≡◌, length}
use Rattle.pk_root.proofs.Scanning.{Scanned}
use Rattle.pk_root.proofs.scan.newest.Given as goal

abbrev pub invariant-loop-page : goal.invariant-loop-page
invariant-loop-page g l = record {
  buffer : length l.buf ≡ l.initial.into.shape.page_bytes;
  scanned : Scanned (g.B.Nand.state l.initial.board) (g.B.Nand.state l.board) l.initial.into.shape l.page l.best l.initial.into l.into;
}
