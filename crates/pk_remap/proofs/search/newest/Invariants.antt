use Rattle.std.proofs.Common.{◌≡◌, length}
use Rattle.pk_base.specs.Page.{page_at}
use Rattle.pk_nand.specs.Counts.{after_reads}
use Rattle.pk_remap.{specs.Searched.table_found, specs.Searched.UsesAtMost, proofs.Finding.Found}
use Rattle.pk_remap.proofs.search.newest.Given as goal

abbrev pub invariant-loop-i : goal.invariant-loop-i
invariant-loop-i g l = record {
  found : Found l.shape l.spares (page_at (g.N.Nand.state l.fn.inner).pages) l.first l.i (table_found l.best l.serves);
  board : g.N.Nand.state l.inner ≡ after_reads l.i (g.N.Nand.state l.fn.inner);
  few : UsesAtMost l.spares l.best;
  room : length l.serves ≡ 64;
  sized : length l.buf ≡ l.shape.page_bytes;
}
