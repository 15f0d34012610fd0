-- The end of a merge: the statements.
use Rattle.std.specs.Prelude.{◌≡◌, ℕ, ◌-◌, ◌≤◌, Some}
use Rattle.pk_base.{specs.declared.sizes.TheConstants.LEVELS, specs.Shape.Shape}
use Rattle.pk_run.specs.Kept.{Kept, empty}
use Rattle.pk_merge.{specs.Merging.Merger, specs.Jobs.Job, specs.Jobs.IsIdle, specs.Jobs.begun, specs.Jobs.held_at, specs.Jobs.taken_from, specs.Jobs.given_to, specs.Jobs.ended}

-- a job whose merge into the run of this level is done: it has this output
abbrev pub done_with : Shape → Job → ℕ → Kept → Merger → Job
done_with shape j level out m = record (begun shape j level) { output = Some out; merger = m }

-- a run of this level, of the shape
pub record IsFormer (shape : Shape) (level : ℕ) (r : Kept) : Type 0 where
  pub same_shape : r.shape ≡ shape
  pub same_level : r.level ≡ level

-- Once the output was taken and the former run of its level freed, a job is idle again.
abbrev pub IdleBehindOne : Type 0
IdleBehindOne =
    (shape : Shape) (j : Job) (level : ℕ) (out former : Kept) (m : Merger) → IsIdle shape j → m.shape ≡ shape → 1 ≤ level → level ≤ LEVELS → IsFormer shape level former
    → (held_at (done_with shape j level out m) level ≡ Some out) × IsIdle shape (ended (given_to (taken_from (done_with shape j level out m) level) former))

-- So it is if, besides, a run was taken for the level above, the source's, and the former one of that level freed.
abbrev pub IdleBehindTwo : Type 0
IdleBehindTwo =
    (shape : Shape) (j : Job) (level : ℕ) (out former source : Kept) (m : Merger) → IsIdle shape j → m.shape ≡ shape → 2 ≤ level → level ≤ LEVELS → IsFormer shape level former → IsFormer shape (level - 1) source
    → (held_at (taken_from (done_with shape j level out m) level) (level - 1) ≡ Some (empty shape (level - 1)))
    × IsIdle shape (ended (given_to (given_to (taken_from (taken_from (done_with shape j level out m) level) (level - 1)) former) source))
