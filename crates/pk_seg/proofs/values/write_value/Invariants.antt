use Rattle.std.proofs.Common.{◌≡◌, length}
use Rattle.pk_base.specs.Shape.{charge}
use Rattle.pk_seg.proofs.Programs.{Writing}
use Rattle.pk_seg.proofs.values.write_value.Given as goal

abbrev pub invariant-loop-i : goal.invariant-loop-i
invariant-loop-i g l = record {
  buffer : length l.buf ≡ l.shape.page_bytes;
  writing : Writing (g.B.Nand.state l.initial.board) (g.B.Nand.state l.board) l.shape l.key l.value l.page (charge l.shape (length l.value)) l.i;
}
