use Rattle.std.proofs.Common.{◌≡◌, length}
use Rattle.pk_scan.proofs.Loading.{Loading}
use Rattle.pk_scan.proofs.runs.read_pages.Given as goal

abbrev pub invariant-loop : goal.invariant-loop
invariant-loop g l = record {
  buffer : length l.buf ≡ l.initial.into.shape.page_bytes;
  loading : Loading l.initial.into.shape l.spaces l.initial.into.level l.count l.initial.into.blocks l.pins
      (g.B.Nand.state l.initial.board) l.initial.arena (g.B.Nand.state l.board) l.arena l.into l.last l.counter;
}
