use Rattle.std.proofs.Common.{◌≡◌, length}
use Rattle.pk_scan.proofs.Checking.{Checking}
use Rattle.pk_scan.proofs.values.check_value.Given as goal

abbrev pub invariant-loop-i : goal.invariant-loop-i
invariant-loop-i g l = record {
  buffer : length l.buf ≡ l.shape.page_bytes;
  checking : Checking (g.B.Nand.state l.initial.board) (g.B.Nand.state l.board) l.shape l.key l.place l.i;
}
