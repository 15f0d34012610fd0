use Rattle.std.proofs.Common.{◌≡◌, length}
use Rattle.pk_jrn.proofs.Replaying.{Replaying}
use Rattle.pk_jrn.proofs.reading.replay_in.Given as goal

abbrev pub invariant-loop-index : goal.invariant-loop-index
invariant-loop-index g l = record {
  buffer : length l.buf ≡ l.shape.page_bytes;
  replaying : Replaying l.shape l.spaces l.number l.blocks (g.B.Nand.state l.initial.board) (g.B.Nand.state l.board) l.index l.into;
}
