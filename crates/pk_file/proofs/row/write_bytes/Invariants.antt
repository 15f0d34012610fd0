use Rattle.std.proofs.Common.{◌≡◌, ◌≤◌, ◌<◌, ◌+◌, ◌*◌, ℕ, List, length}
use Rattle.pk_base.{specs.Shape.page_count, specs.Page.whole, specs.Page.page_at}
use Rattle.pk_file.{specs.Slots.pages_of, specs.Pieces.Gathered, specs.RowSteps.wanted, specs.RowSteps.is_dirty}
use Rattle.pk_file.proofs.row.write_bytes.Given as goal

abbrev pub invariant-loop-i : goal.invariant-loop-i
invariant-loop-i g l = record {
  started : 0 < length l.piece.bytes.items → l.piece.first < page_count l.shape;
  are_whole : (k : ℕ) → l.first ≤ k → k < l.first + l.i → (bytes : List ℕ) × (page_at (pages_of l.slots.items) k ≡ whole bytes);
  gathered : Gathered l.shape.page_bytes (l.first * l.shape.page_bytes) ((l.first + l.i) * l.shape.page_bytes)
      (wanted l.shape.page_bytes (pages_of l.slots.items)) (is_dirty l.shape.page_bytes (pages_of l.slots.items) l.first l.extents.items)
      (g.F.PageFile.steps l.initial.file) (g.F.PageFile.steps l.file) l.piece.first l.piece.bytes.items l.piece.gap;
}
