use Rattle.std.proofs.Common.{◌≡◌, ℕ, ◌-◌, ◌<◌, ◌≤◌, List, length, get_or, slice_index, true, false, IsTrue}
use Rattle.sqlite_disk.specs.Disk.{Torn}
use Rattle.pk_base.{specs.Shape.page_count, specs.Mark.Mark}
use Rattle.pk_image.{specs.Header.file_size, specs.Image.state_place}
use Rattle.pk_redo.specs.Steps.{Sets}
use Rattle.pk_redo.specs.Image.{SameButSet, AllSameBut}
use Rattle.pk_redo.proofs.checkpoints.put_all_states.Given as goal

abbrev pub invariant-loop-at : goal.invariant-loop-at
invariant-loop-at g l = record {
  usable : IsTrue (g.D.Disk.is_usable l.image);
  clean : IsTrue (g.D.Disk.is_clean l.image) → IsTrue (g.D.Disk.is_clean l.fn.image);
  crash : (marks : List Mark) (base : List ℕ) → ((k : ℕ) → get_or l.lacks.items k false ≡ true → Sets l.shape marks k) → AllSameBut g.D.Disk l.fn.image l.shape marks base
      → AllSameBut g.D.Disk l.image l.shape marks base;
  seen : (marks : List Mark) (base : List ℕ) → ((k : ℕ) → get_or l.lacks.items k false ≡ true → Sets l.shape marks k) → SameButSet l.shape marks base (g.D.Disk.seen l.fn.image)
      → SameButSet l.shape marks base (g.D.Disk.seen l.image);
  torn : Torn 32 (page_count l.shape) (g.D.Disk.seen l.fn.image) (g.D.Disk.seen l.image);
  written : file_size l.shape ≤ length (g.D.Disk.seen l.fn.image) → (k : ℕ) → k < l.at → get_or l.lacks.items k false ≡ true
      → slice_index (g.D.Disk.seen l.image) (state_place k) ≡ slice_index l.states k;
}

abbrev pub decreases-loop-at : goal.decreases-loop-at
decreases-loop-at g l = l.count - l.at
