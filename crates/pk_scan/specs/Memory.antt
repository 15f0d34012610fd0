-- The memory of an opening, before and between its two halves.
use Rattle.std.specs.Prelude.{◌≡◌, ℕ, ◌+◌, ◌<◌, ◌≤◌, true, false, [], length, replicate, Some}
use Rattle.pk_base.{specs.Shape.Shape, specs.Shape.root_pages, specs.Shape.pinned, specs.Page.Flash, specs.Page.page_at}
use Rattle.pk_buf.specs.Table.{no_entries}
use Rattle.pk_level.{specs.Levels.no_runs, specs.Arenas.leases_of}
use Rattle.pk_live.specs.Values.{no_values}
use Rattle.pk_model.{specs.Found.Found as FoundLists, specs.RootLimits.root_limits}
use Rattle.pk_nand.{specs.BoardState.BoardState, specs.Counts.after_reads}
use Rattle.pk_pin.specs.Frames.{free_frames}
use Rattle.pk_pool.specs.Blocks.{PoolOnFlash, unused}
use Rattle.pk_rootfmt.{specs.Newest.newest_root, specs.Root.is_root, specs.Root.named}
use Rattle.pk_law_steps.specs.Under.{places}
use Rattle.pk_walk.specs.Walking.{most_read}
use Rattle.pk_scan.{specs.Starting.IsAtStart, specs.OpeningParts.HoldsFound, specs.OpeningParts.ReadsValues, specs.OpeningParts.wanted_behind, specs.Used.IsUseOf, specs.Reads.value_reads}
use Rattle.pk_scan.{specs.Runs.LeasedMore, specs.declared.contents.Found.Found, specs.declared.contents.Memory.Memory}
use Rattle.pk_space.specs.Uses.{nothing_used}

-- Nothing was read: there are no entries and no values, all frames are free, and no block is used.
pub record FoundNothing {A : Type 0} (shape : Shape) (frames : ℕ) (f : Found A) : Type 0 where
  pub root_shape : f.root.shape ≡ shape
  pub active_none : f.active ≡ no_entries shape
  pub frozen_none : f.frozen ≡ no_entries shape
  pub no_run : f.levels ≡ no_runs shape (pinned shape frames)
  pub page_bytes : f.arena.page_bytes ≡ shape.page_bytes
  pub all_free : f.arena.used ≡ replicate frames false
  pub none_live : f.live ≡ no_values shape
  pub pool_unused : f.pool ≡ unused shape
  pub none_used : f.spaces ≡ nothing_used
  pub pool_fits : (flash : Flash) → PoolOnFlash f.pool flash

-- Nothing was read, and the walk is at its start.
pub record IsUnread {A : Type 0} (shape : Shape) (frames : ℕ) (m : Memory A) : Type 0 where
  pub nothing : FoundNothing shape frames m.found
  pub walk_shape : m.walk.shape ≡ shape
  pub starts : IsAtStart m.walk
  pub page_room : length m.page.items ≡ shape.page_bytes

-- ---- lists

-- The lists under the root may be read: there are no entries, and enough frames are free.
pub record AwaitsLists {A : Type 0} (f : Found A) : Type 0 where
  pub active_none : f.active ≡ no_entries f.root.shape
  pub frozen_none : f.frozen ≡ no_entries f.root.shape
  pub levels_shape : f.levels.shape ≡ f.root.shape
  pub page_bytes : f.arena.page_bytes ≡ f.root.shape.page_bytes
  pub free : wanted_behind f.root.shape f.levels.pinned 0 ≤ free_frames f.arena

-- these lists are in memory
abbrev pub HoldsLists : {A : Type 0} → Flash → Found A → FoundLists → Type 0
HoldsLists flash f lists = HoldsFound f.root.shape flash f.root.root f.active f.frozen f.epoch f.arena f.levels lists

-- The lists under the root are in memory, and the frames of their runs were free.
pub record LoadsLists {A : Type 0} (flash : Flash) (old new : Found A) (lists : FoundLists) : Type 0 where
  pub held : HoldsFound old.root.shape flash old.root.root new.active new.frozen new.epoch new.arena new.levels lists
  pub more : LeasedMore old.arena new.arena (leases_of new.levels.runs)
  pub pinned_is : new.levels.pinned ≡ old.levels.pinned
  pub levels_shape : new.levels.shape ≡ old.levels.shape

-- The newest root is in memory, and the lists under it.
pub record FindsLists {A : Type 0} (flash : Flash) (old new : Found A) (lists : FoundLists) : Type 0 where
  pub top : newest_root old.root.shape (page_at flash) ≡ Some (new.root_page, new.root.root)
  pub place : new.root_page < root_pages old.root.shape
  pub grammar : is_root old.root.shape new.root.root ≡ true
  pub held : HoldsFound old.root.shape flash new.root.root new.active new.frozen new.epoch new.arena new.levels lists
  pub few : length new.active.entries ≤ new.active.capacity
  pub more : LeasedMore old.arena new.arena (leases_of new.levels.runs)
  pub pinned_is : new.levels.pinned ≡ old.levels.pinned
  pub levels_shape : new.levels.shape ≡ old.root.shape

-- ---- values

-- The values of all keys may be read: no block has an owner, no value was taken, and the walk is at its start.
pub record AwaitsValues {A : Type 0} (m : Memory A) : Type 0 where
  pub grammar : is_root m.found.root.shape m.found.root.root ≡ true
  pub levels_shape : m.found.levels.shape ≡ m.found.root.shape
  pub walk_shape : m.walk.shape ≡ m.found.root.shape
  pub starts : IsAtStart m.walk
  pub none_live : m.found.live ≡ no_values m.found.root.shape
  pub pool_unused : m.found.pool ≡ unused m.found.root.shape
  pub none_used : m.found.spaces ≡ nothing_used
  pub page_room : length m.page.items ≡ m.found.root.shape.page_bytes

-- The values of all keys that exist were read, each page once: the live map represents them, and what each
-- namespace uses is counted.
pub record FindsValues {A : Type 0} (old new : BoardState) (f : Found A) (lists : FoundLists) : Type 0 where
  pub values : ReadsValues f.root.shape old.pages (root_limits f.root.shape f.root.root) (named f.root.root) f.live (places lists [])
  pub uses : IsUseOf f.root.shape f.spaces (places lists [])
  pub reads : new ≡ after_reads (most_read f.levels.runs + value_reads f.root.shape (places lists [])) old
