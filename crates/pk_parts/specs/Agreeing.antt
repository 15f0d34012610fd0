-- How a drive matches its flash.
use Rattle.std.specs.Prelude.{◌≡◌, ℕ, ◌/◌, List, [], Option, Some, ◌⊎◌, false}
use Rattle.pk_base.{specs.Shape.Shape, specs.Page.Flash, specs.Page.IsFlash, specs.Map.Map}
use Rattle.pk_rootfmt.specs.Root.{Root}
use Rattle.pk_model.specs.Found.{Found}
use Rattle.pk_law_steps.specs.Under.{IsUnder, IsValuePage, places}
use Rattle.pk_values.specs.Placed.{HoldsValues, IsOutput, ValuesOnFlash}
use Rattle.pk_gc.{specs.declared.course.Phase.TheVariants.Commits, specs.Standing.ReclaimOnFlash}
use Rattle.pk_schedule.specs.Index.{IndexOnFlash, IsSettled, HalfStands}
use Rattle.pk_scan.specs.Used.{IsUseOf}
use Rattle.pk_reclaim.specs.Space.{HalfMoves, reclaim_parts}
use Rattle.pk_parts.specs.Parts.{Parts, frames_of, index_of, outputs_of, settled_parts, commits_in}

-- The parts are those of what is under the newest root, next to a reclaim that holds these blocks for values: `without` is the map of the
-- flash, `all` the one with the pending entries.
pub record DriveOnFlashBeside (d : Parts) (outputs : List ℕ) (shape : Shape) (flash : Flash) (top : ℕ × Root) (found : Found) (without all : Map) : Type 0 where
  pub shape_is : d.log.shape ≡ shape
  pub is_flash : IsFlash shape flash
  pub index : IndexOnFlash (index_of d) (frames_of d) flash top found
  pub committed : IsUnder shape flash [] top found without
  pub pending : IsUnder shape flash d.log.pending top found all
  -- the values of the map with the pending entries, and where those without them are
  pub placed : ValuesOnFlash shape d.values d.pool outputs flash (places found d.log.pending)
  pub former : (k : ℕ) → IsValuePage shape (places found []) k → HoldsValues d.pool (k / shape.block_pages)
  pub former_read : (k : ℕ) → IsValuePage shape (places found []) k → IsOutput outputs (k / shape.block_pages) → ⊥
  -- the reclaim matches them
  pub reclaim : ReclaimOnFlash shape d.reclaim d.values.live d.pool flash (places found d.log.pending)
  pub uses : IsUseOf shape d.spaces (places found d.log.pending)

-- the same next to what runs in the drive
abbrev pub DriveOnFlashWith : Parts → Shape → Flash → ℕ × Root → Found → Map → Map → Type 0
DriveOnFlashWith d shape flash top found without all = DriveOnFlashBeside d (outputs_of d) shape flash top found without all

-- ---- half made pairs

-- no pair is half made, of a root or of a commit, and no block leaves
pub record IsWhole (d : Parts) : Type 0 where
  pub settles : IsSettled (index_of d)
  pub moves : commits_in d.reclaim.phase ≡ false
  pub epoch : d.log.epoch.half ≡ false

-- The pair of the newest root is half made, with nothing pending; before its first program the flash had the same map.
pub record IsHalfRoot (d : Parts) (flash : Flash) (m : Map) : Type 0 where
  pub index : HalfStands (index_of d) flash m
  pub moves : commits_in d.reclaim.phase ≡ false
  pub epoch : d.log.epoch.half ≡ false
  pub none_pending : d.log.pending ≡ []

-- The commit of a reclaim's moves is half made, with nothing pending; before its first program the flash had the same map.
pub record IsHalfCommit (d : Parts) (flash : Flash) (top : ℕ × Root) (found : Found) (m : Map) : Type 0 where
  pub settles : IsSettled (index_of d)
  pub victim : ℕ
  pub phase : d.reclaim.phase ≡ Commits victim
  pub half : HalfMoves (reclaim_parts d.log d.values d.pool d.reclaim) flash top found m
  pub none_pending : d.log.pending ≡ []

-- at most one pair is half made
abbrev pub IsHalfAtMost : Parts → Flash → ℕ × Root → Found → Map → Type 0
IsHalfAtMost d flash top found m = IsWhole d ⊎ (IsHalfRoot d flash m ⊎ IsHalfCommit d flash top found m)

-- The board has this shape and these pages, and the drive agrees with them, as if the blocks that leave were free; at most one pair is half made.
pub record DriveOnFlash (d : Parts) (told : Option Shape) (flash : Flash) : Type 0 where
  pub shape : Shape
  pub top : ℕ × Root
  pub found : Found
  pub without : Map
  pub all : Map
  pub told_is : told ≡ Some shape
  pub with : DriveOnFlashWith (settled_parts d) shape flash top found without all
  pub course : IsHalfAtMost d flash top found without
