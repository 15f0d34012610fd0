-- A drive as it is after its opening.
use Rattle.std.specs.Prelude.{◌≡◌, ℕ, [], false, None}
use Rattle.pk_base.{specs.Shape.Shape, specs.Page.Flash, specs.Map.Map}
use Rattle.pk_rootfmt.specs.Root.{Root}
use Rattle.pk_model.specs.Found.{Found}
use Rattle.pk_call.specs.Steady.{live_blocks}
use Rattle.pk_level.specs.Arenas.{AreBareAbove}
use Rattle.pk_schedule.specs.Index.{merging}
use Rattle.pk_gc.specs.Stepping.{runs_in}
use Rattle.pk_parts.{specs.Parts.Parts, specs.Parts.counts_of, specs.Parts.frames_of, specs.Agreeing.DriveOnFlashWith, specs.Agreeing.IsWhole}

-- The drive agrees with the flash and runs, with these frames, of which no level after the pinned ones has some. Nothing is pending, the
-- epoch takes no more commits, no block is open, as many blocks are in use as have a page of a value, and no reclaim and no merge runs.
pub record OpenedOn (shape : Shape) (flash : Flash) (frames : ℕ) (d : Parts) : Type 0 where
  pub top : ℕ × Root
  pub found : Found
  pub all : Map
  pub with : DriveOnFlashWith d shape flash top found all all
  pub whole : IsWhole d
  pub frames_are : frames_of d ≡ frames
  pub runs : d.stopped ≡ false
  pub none_pending : d.log.pending ≡ []
  pub takes_none : d.log.epoch.takes_more ≡ false
  pub none_open : d.values.open_block ≡ None
  pub blocks_are : (counts_of d).blocks ≡ live_blocks shape found []
  pub rests : runs_in d.reclaim.phase ≡ false
  pub closed : AreBareAbove d.levels.pinned 1 d.levels.runs
  pub no_merge : merging d.schedule.phase ≡ 0
