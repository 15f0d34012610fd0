use Rattle.std.proofs.Common.{◌≡◌, length}
use Rattle.pk_seg.proofs.Readings.{Filling}
use Rattle.pk_seg.proofs.values.read_value.Given as goal

abbrev pub invariant-loop-i : goal.invariant-loop-i
invariant-loop-i g l = record {
  buffer : length l.buf ≡ l.shape.page_bytes;
  filling : Filling (g.B.Nand.state l.initial.board) (g.B.Nand.state l.board) l.shape l.page (length l.initial.into) l.i l.into;
}
