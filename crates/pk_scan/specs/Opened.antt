-- All that is on a flash, as opening has it in memory.
use Rattle.std.specs.Prelude.{◌≡◌, ◌≢◌, ℕ, ◌<◌, true, [], length}
use Rattle.pk_base.{specs.Shape.Shape, specs.Shape.root_pages, specs.Shape.pinned, specs.Page.Flash, specs.Page.page_at, specs.Page.erased, specs.Map.Map}
use Rattle.pk_plan.specs.declared.owner.Owner.TheVariants.{Values as for_values}
use Rattle.pk_pool.specs.Blocks.{used_by}
use Rattle.pk_rootfmt.specs.Root.{is_root, named}
use Rattle.pk_jrn.{specs.Epochs.EpochOnFlash, specs.Replays.buffer_of}
use Rattle.pk_level.{specs.Levels.RunsOnFlash, specs.Arenas.HasArena, specs.Arenas.AreBareAbove}
use Rattle.pk_model.{specs.Found.Found as FoundLists, specs.Values.all_pages, specs.Values.blocks_with}
use Rattle.pk_law_steps.specs.Under.{IsUnder, IsValuePage, places}
pub use Rattle.pk_scan.specs.OpeningParts.{HaveBlocks}
use Rattle.pk_scan.{specs.OpeningParts.IsFoundEpoch, specs.Used.IsUseOf, specs.Adopts.HasOwners, specs.declared.contents.Found.Found}
use Rattle.pk_live.specs.Lives.{Lives}

-- The lists under the newest root are in memory: the newest epoch in the active buffer, the older one in the frozen buffer, the
-- runs in the levels, of which the pinned ones have frames, and nothing else has some.
pub record ListsOnFlash {A : Type 0} (shape : Shape) (flash : Flash) (frames : ℕ) (f : Found A) (lists : FoundLists) (map : Map) : Type 0 where
  pub shape_is : f.root.shape ≡ shape
  pub grammar : is_root shape f.root.root ≡ true
  pub place : f.root_page < root_pages shape
  pub under : IsUnder shape flash [] (f.root_page, f.root.root) lists map
  pub active_is : f.active ≡ buffer_of shape lists.newest
  pub frozen_is : f.frozen ≡ buffer_of shape lists.older
  pub epoch_is : IsFoundEpoch shape flash f.root.root f.epoch
  pub epoch_fits : EpochOnFlash f.epoch flash
  pub levels_shape : f.levels.shape ≡ shape
  pub levels_pinned : f.levels.pinned ≡ pinned shape frames
  pub stand : RunsOnFlash flash f.arena f.levels.runs lists.runs
  pub run_blocks : HaveBlocks shape f.levels.runs f.root.root.runs
  pub arena_is : HasArena shape frames f.levels f.arena []
  pub closed : AreBareAbove f.levels.pinned 1 f.levels.runs

-- The live map represents the values of the keys that exist, and each block has the owner that it is found to have: the values' are
-- those with a page of a value.
pub record BlocksOnFlash {A : Type 0} (shape : Shape) (flash : Flash) (f : Found A) (lists : FoundLists) : Type 0 where
  pub lives : Lives shape (named f.root.root) f.live (places lists [])
  pub written : (k : ℕ) → IsValuePage shape (places lists []) k → page_at flash k ≢ erased
  pub owners : HasOwners shape f.root.root f.live f.pool
  pub values_are : used_by for_values f.pool.states ≡ length (blocks_with shape (all_pages shape (places lists [])))

-- The flash is opened: the lists under its newest root are in memory, the live map represents the values of the keys that
-- exist, each block has its owner, and what each namespace uses is counted.
pub record FoundOnFlash {A : Type 0} (shape : Shape) (flash : Flash) (frames : ℕ) (f : Found A) : Type 0 where
  pub found : FoundLists
  pub map : Map
  pub lists : ListsOnFlash shape flash frames f found map
  pub blocks : BlocksOnFlash shape flash f found
  pub uses : IsUseOf shape f.spaces (places found [])
