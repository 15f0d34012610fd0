-- What holds while a merge runs: of its parts in memory, of the flash, of the pool and of the arena.
use Rattle.std.specs.Prelude.{◌≡◌, ◌⊎◌, ℕ, ◌+◌, ◌*◌, ◌<◌, ◌≤◌, min, Bool, true, T, List, [], ◌++◌, length}
use Rattle.std.{specs.List.AllByRecursion, specs.FinMap.Entries.is_sorted}
use Rattle.pk_base.{specs.Key.key_cmp, specs.Shape.Shape, specs.Shape.page_entries, specs.Shape.cap, specs.Shape.run_pages, specs.Shape.run_blocks, specs.Entry.Entry, specs.EntryChecks.IsEntry}
use Rattle.pk_base.specs.Page.{Flash}
use Rattle.pk_meta.specs.Over.{over, kept_at}
use Rattle.pk_pin.specs.Frames.{Frames, free_frames}
use Rattle.pk_plan.{specs.declared.owner.Owner.TheVariants.Meta, specs.Quotas.quota_of}
use Rattle.pk_pool.specs.Blocks.{Blocks, PoolOnFlash, used_by}
use Rattle.pk_run.specs.Kept.{Kept, RunOnFlash}
use Rattle.pk_level.specs.Arenas.{IsPinnedIf}
use Rattle.pk_merge.{specs.declared.source.Source.Source, specs.Sources.blocks_in, specs.Sources.Has, specs.Sources.IsOf, specs.Merging.Merger, specs.Merging.left, specs.Merging.StandsIn}
use Rattle.pk_merge.specs.Outputs.{AreMeta, BlocksApart, IsOutput}

-- the whole output of a merge into a run of this level
abbrev pub merged : ℕ → List Entry → List Entry → List Entry
merged level es fs = kept_at level (over es fs)

-- What is merged can be written, and the output has room in its level.
pub record CanStand (shape : Shape) (level : ℕ) (es fs : List Entry) : Type 0 where
  pub each_source : AllByRecursion (IsEntry shape) es
  pub each_target : AllByRecursion (IsEntry shape) fs
  pub few : length (merged level es fs) ≤ cap shape level * page_entries shape

-- all that a merger has is for this shape
pub record IsMergerOf (shape : Shape) (m : Merger) : Type 0 where
  pub own : m.shape ≡ shape
  pub of_source : m.source.shape ≡ shape
  pub of_target : m.target.shape ≡ shape

-- The output has no block without a page, but one for the entries that wait for theirs.
abbrev pub HasNoSpare : Kept → Merger → Type 0
HasNoSpare out m = length out.blocks * out.shape.block_pages < length out.firsts + out.shape.block_pages + min 1 (length m.gathered)

-- The output is complete, with all its entries, in as many blocks as these need, and in frames if it is pinned.
pub record IsOutputWhole (pins : Bool) (out : Kept) (flash : Flash) (arena : Frames) (all : List Entry) : Type 0 where
  pub stands : RunOnFlash out flash arena all
  pub blocks : length out.blocks ≡ run_blocks out.shape out.count
  pub pinned : IsPinnedIf pins out

module _ {X : Type 0} (source : Source X) (target : Kept) where
  -- The output represents the first entries of the merge, cut into full pages; after them follow those that were taken, and what remains.
  pub record Merging (out : Kept) (m : Merger) (flash : Flash) (arena : Frames) (es fs : List Entry) : Type 0 where
    pub cursors : StandsIn source target flash arena es fs m
    pub entries : List Entry
    pub stands : RunOnFlash out flash arena entries
    pub makes : merged out.level es fs ≡ entries ++ (m.gathered ++ left out.level es fs m)
    pub full : (out.count ≡ length out.firsts * page_entries out.shape) ⊎ (m.gathered ++ left out.level es fs m ≡ [])
    pub output : IsOutput out flash
    pub no_spare : HasNoSpare out m

  -- The blocks of all three are owned for meta pages, and no block of the output is one of the others; for those that it needs yet there is room.
  pub record HasBlocks (out : Kept) (pool : Blocks) (flash : Flash) (count : ℕ) : Type 0 where
    pub fits : PoolOnFlash pool flash
    pub own : AreMeta pool out.blocks
    pub of_source : AreMeta pool (blocks_in source)
    pub of_target : AreMeta pool target.blocks
    pub from_source : BlocksApart (blocks_in source) out.blocks
    pub from_target : BlocksApart target.blocks out.blocks
    pub room : used_by Meta pool.states + run_blocks out.shape count ≤ quota_of pool.shape Meta + length out.blocks

  -- all are for a flash of the same shape
  pub record OneShape (out : Kept) (m : Merger) (pool : Blocks) (arena : Frames) : Type 0 where
    pub of_merger : m.shape ≡ out.shape
    pub of_target : target.shape ≡ out.shape
    pub of_source : IsOf out.shape source
    pub of_pool : pool.shape ≡ out.shape
    pub of_frames : arena.page_bytes ≡ out.shape.page_bytes

  -- each page of the output has a frame, if the level is pinned, and for those to come there are free ones; otherwise none has
  pub record HasFrames (pins : Bool) (out : Kept) (arena : Frames) (count : ℕ) : Type 0 where
    pub pinned : IsPinnedIf pins out
    pub free : pins ≡ true → run_pages out.shape count ≤ free_frames arena + length out.firsts

  -- A merge of these lists runs.
  pub record Running (pins : Bool) (out : Kept) (m : Merger) (pool : Blocks) (flash : Flash) (arena : Frames) (es fs : List Entry) : Type 0 where
    pub lists : CanStand out.shape out.level es fs
    pub shapes : OneShape out m pool arena
    pub merging : Merging out m flash arena es fs
    pub blocks : HasBlocks out pool flash (length (merged out.level es fs))
    pub frames : HasFrames pins out arena (length (merged out.level es fs))

-- A merge of these lists into a run of this level can be begun: source and target match the flash, there are blocks for its output, and frames if it is pinned.
pub record CanBegin {X : Type 0} (source : Source X) (target : Kept) (pins : Bool) (shape : Shape) (level : ℕ) (pool : Blocks) (flash : Flash) (arena : Frames) (es fs : List Entry) : Type 0 where
  pub has : Has source flash arena es
  pub stands : RunOnFlash target flash arena fs
  pub rising : T (is_sorted key_cmp es)
  pub lists : CanStand shape level es fs
  pub of_source : IsOf shape source
  pub of_target : target.shape ≡ shape
  pub of_pool : pool.shape ≡ shape
  pub of_frames : arena.page_bytes ≡ shape.page_bytes
  pub fits : PoolOnFlash pool flash
  pub source_owned : AreMeta pool (blocks_in source)
  pub target_owned : AreMeta pool target.blocks
  pub room : used_by Meta pool.states + run_blocks shape (length (merged level es fs)) ≤ quota_of pool.shape Meta
  pub frames : pins ≡ true → run_pages shape (length (merged level es fs)) ≤ free_frames arena
