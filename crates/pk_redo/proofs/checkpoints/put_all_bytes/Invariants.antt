use Rattle.std.proofs.Common.{◌≡◌, ℕ, ◌<◌, ◌≤◌, List, length, take, drop, get_or, true, false, IsTrue}
use Rattle.pk_base.{specs.Shape.page_count, specs.Mark.Mark, specs.Page.page_at, specs.Page.whole}
use Rattle.pk_image.{specs.Header.file_size, specs.Image.page_place}
use Rattle.pk_redo.specs.Steps.{Sets}
use Rattle.pk_redo.specs.Image.{SameButSet, AllSameBut, ZerosAfterExtents}
use Rattle.pk_redo.proofs.checkpoints.put_all_bytes.Given as goal

abbrev pub invariant-loop-page : goal.invariant-loop-page
invariant-loop-page g l = record {
  usable : IsTrue (g.D.Disk.is_usable l.image);
  clean : IsTrue (g.D.Disk.is_clean l.image) → IsTrue (g.D.Disk.is_clean l.fn.image);
  buffer : length l.buffer ≡ length l.fn.buffer;
  sized : length l.extents.items ≡ length l.fn.extents.items;
  crash : (marks : List Mark) (base : List ℕ) → ((k : ℕ) → get_or l.lacks.items k false ≡ true → Sets l.shape marks k) → AllSameBut g.D.Disk l.fn.image l.shape marks base
      → AllSameBut g.D.Disk l.image l.shape marks base;
  seen : (marks : List Mark) (base : List ℕ) → ((k : ℕ) → get_or l.lacks.items k false ≡ true → Sets l.shape marks k) → SameButSet l.shape marks base (g.D.Disk.seen l.fn.image)
      → SameButSet l.shape marks base (g.D.Disk.seen l.image);
  long : file_size l.shape ≤ length (g.D.Disk.seen l.fn.image) → file_size l.shape ≤ length (g.D.Disk.seen l.image);
  zeros : file_size l.shape ≤ length (g.D.Disk.seen l.fn.image) → ZerosAfterExtents l.shape l.fn.extents.items (g.D.Disk.seen l.fn.image)
      → ZerosAfterExtents l.shape l.extents.items (g.D.Disk.seen l.image);
  written : file_size l.shape ≤ length (g.D.Disk.seen l.fn.image) → ZerosAfterExtents l.shape l.fn.extents.items (g.D.Disk.seen l.fn.image)
      → (k : ℕ) (own : List ℕ) → k < l.page → get_or l.lacks.items k false ≡ true → page_at (g.P.Pages.flash_of l.pages) k ≡ whole own
      → take l.shape.page_bytes (drop (page_place l.shape k) (g.D.Disk.seen l.image)) ≡ own;
}
