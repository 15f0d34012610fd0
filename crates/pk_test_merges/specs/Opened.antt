-- Runs as the tests open them, the room that a merge of them needs, and its output.
use Rattle.std.{specs.Prelude.◌≡◌, specs.Prelude.ℕ, specs.Prelude.◌<◌, specs.Prelude.List, specs.Prelude.[], specs.Prelude.◌∷◌, specs.Prelude.slice_get, specs.Prelude.Some, specs.List.AllByRecursion}
use Rattle.pk_base.{specs.Shape.Shape, specs.Entry.Entry, specs.EntryChecks.IsEntry, specs.Page.Flash}
use Rattle.pk_pin.specs.Frames.{Frames, free_frames}
use Rattle.pk_plan.{specs.declared.owner.Owner.TheVariants.Meta, specs.Quotas.quota_of}
use Rattle.pk_pool.{specs.declared.state.BlockState.TheVariants.Owned, specs.Blocks.Blocks, specs.Blocks.used_by}
use Rattle.pk_run.specs.Kept.{Kept, RunOnFlash}
use Rattle.pk_merge.{specs.declared.source.Source.Source, specs.declared.source.Source.TheVariants.Run, specs.Jobs.Job, specs.Jobs.output_of}

-- The run represents entries that can be written, and its pages are in one block.
pub record IsOpened (shape : Shape) (flash : Flash) (arena : Frames) (block : ℕ) (r : Kept) : Type 0 where
  pub entries : List Entry
  pub stands : RunOnFlash r flash arena entries
  pub each : AllByRecursion (IsEntry shape) entries
  pub same_shape : r.shape ≡ shape
  pub blocks_are : r.blocks ≡ block ∷ []

-- The blocks of both runs are owned for meta pages, and there is room for a block and a frame more.
pub record HasRoom (shape : Shape) (pool : Blocks) (arena : Frames) : Type 0 where
  pub of_pool : pool.shape ≡ shape
  pub of_frames : arena.page_bytes ≡ shape.page_bytes
  pub first : slice_get pool.states 2 ≡ Some (Owned Meta)
  pub second : slice_get pool.states 3 ≡ Some (Owned Meta)
  pub block : used_by Meta pool.states < quota_of shape Meta
  pub frame : 0 < free_frames arena

-- a run as the source of a merge
abbrev pub from_run : Kept → Source (Unit {0})
from_run r = Run (record { ref_ptr = (0, 0); now = r })

-- The output of the job, so far, matches.
pub record HasOutput (shape : Shape) (j : Job) (flash : Flash) (arena : Frames) : Type 0 where
  pub is_there : j.output ≡ Some (output_of j)
  pub entries : List Entry
  pub stands : RunOnFlash (output_of j) flash arena entries
  pub same_shape : (output_of j).shape ≡ shape
