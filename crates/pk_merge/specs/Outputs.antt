-- The output of a merge: its blocks, and its pages in them, of which each is programmed once.
use Rattle.std.specs.Prelude.{◌≡◌, ◌⊎◌, ℕ, ◌+◌, ◌*◌, ◌<◌, ◌≤◌, Bool, true, not, ◌||◌, ◌==◌, T, is_some, List, [], ◌∷◌, ◌++◌, length, slice_get, Option, Some}
use Rattle.std.{specs.List.list_all, specs.FinMap.Entries.is_sorted}
use Rattle.pk_base.{specs.declared.sizes.TheConstants.LEVELS, specs.Key.Key, specs.Key.key_cmp, specs.Shape.page_entries, specs.Entry.Entry, specs.Page.Flash, specs.Page.page_at, specs.Page.erased}
use Rattle.pk_meta.{specs.Page.meta_bytes, specs.PageChecks.IsContent}
use Rattle.pk_nand.{specs.BoardState.BoardState, specs.Calls.ProgramFailed, specs.Calls.after_program, specs.Operations.IsErasedBlock, specs.Crash.Reached, specs.Crash.Went}
use Rattle.pk_nand.specs.Pairs.{SameOutsidePair}
use Rattle.pk_pin.specs.Frames.{Frames, free_frames, KeepsPage}
use Rattle.pk_plan.{specs.declared.owner.Owner.TheVariants.Meta, specs.Quotas.quota_of}
use Rattle.pk_pool.{specs.declared.state.BlockState.TheVariants.Owned, specs.Blocks.Blocks, specs.Blocks.IsSpare, specs.Blocks.PoolOnFlash, specs.Blocks.used_by, specs.Blocks.with_state}
use Rattle.pk_pool.specs.Taking.{TakesReady, ErasesFree, ReachesIn}
use Rattle.pk_run.specs.Kept.{Kept, RunOnFlash, most_blocks, most_pages, page_of, with_page}
use Rattle.pk_level.specs.Arenas.{IsPinnedIf}

-- all of these blocks are the pool's, owned for meta pages
abbrev pub AreMeta : Blocks → List ℕ → Type 0
AreMeta pool blocks = (i b : ℕ) → slice_get blocks i ≡ Some b → slice_get pool.states b ≡ Some (Owned Meta)

-- no block of the one list is one of the other
abbrev pub BlocksApart : List ℕ → List ℕ → Type 0
BlocksApart blocks others = (i j b : ℕ) → slice_get blocks i ≡ Some b → slice_get others j ≡ Some b → ⊥

-- Its blocks are different, and exist; the pages of them that it has not reached are Erased.
pub record IsOutput (r : Kept) (flash : Flash) : Type 0 where
  pub different : (i j b : ℕ) → slice_get r.blocks i ≡ Some b → slice_get r.blocks j ≡ Some b → i ≡ j
  pub exist : (i b : ℕ) → slice_get r.blocks i ≡ Some b → b < r.shape.blocks
  pub unused : (j : ℕ) → length r.firsts ≤ j → j < length r.blocks * r.shape.block_pages → page_at flash (page_of r j) ≡ erased

-- ---- a block that is taken

-- A block may be taken for the next page: the quota has room for one more, and so has the run.
pub record MayTakeBlock (pool : Blocks) (r : Kept) (flash : Flash) : Type 0 where
  pub same_shape : pool.shape ≡ r.shape
  pub fits : PoolOnFlash pool flash
  pub below : used_by Meta pool.states < quota_of pool.shape Meta
  pub room : length r.blocks < most_blocks r

-- An Erased block was taken, at most with its erase, and is the run's last one.
pub record TakesBlock (pool : Blocks) (r : Kept) (old : BoardState) (pool' : Blocks) (r' : Kept) (new : BoardState) : Type 0 where
  pub block : ℕ
  pub spare : IsSpare pool block
  pub choice : TakesReady pool old block new ⊎ ErasesFree pool old block new
  pub pool_is : pool' ≡ with_state pool block (Owned Meta)
  pub counted : used_by Meta pool'.states ≡ used_by Meta pool.states + 1
  pub run_is : r' ≡ record r { blocks = r.blocks ++ block ∷ [] }
  pub exists : block < pool.shape.blocks
  pub erased : IsErasedBlock pool.shape new.pages block
  pub cuts : ReachesIn pool.shape block old new

-- ---- a page that is programmed

-- the bytes of its next page with these entries
abbrev pub next_bytes : Kept → List Entry → List ℕ
next_bytes r more = meta_bytes r.shape r.level (length r.firsts) more

-- a run whose blocks are none of the output's is as before
abbrev pub OthersStand : Kept → Flash → Frames → Flash → Frames → Type 0
OthersStand r old before new after = (other : Kept) (es : List Entry) → BlocksApart other.blocks r.blocks → other.shape ≡ r.shape → RunOnFlash other old before es → RunOnFlash other new after es

-- wherever the program of its next page is cut, no page outside the pair of that page differs
abbrev pub SameButNext : Kept → Flash → Flash → Type 0
SameButNext r old new = SameOutsidePair r.shape (page_of r (length r.firsts)) old new

-- The next page may be programmed with these entries, and kept in a frame if one is needed.
pub record MayProgram (pins : Bool) (r : Kept) (more : List Entry) (flash : Flash)
    (arena : Frames) : Type 0 where
  pub entries : List Entry
  pub stands : RunOnFlash r flash arena entries
  pub output : IsOutput r flash
  -- the page has a place in the blocks, and its entries are all there
  pub place : length r.firsts < length r.blocks * r.shape.block_pages
  pub room : length r.firsts < most_pages r
  pub full : r.count ≡ length r.firsts * page_entries r.shape
  pub content : IsContent r.shape r.level (length r.firsts) more
  -- a frame is free if one is needed
  pub pinned : IsPinnedIf pins r
  pub free : pins ≡ true → 0 < free_frames arena
  pub frames : arena.page_bytes ≡ r.shape.page_bytes

-- The next page has these entries now, and so has a frame if one is needed.
pub record ProgramsPage (pins : Bool) (r : Kept) (more : List Entry) (old : BoardState) (before : Frames) (r' : Kept) (new : BoardState) (after : Frames) : Type 0 where
  pub first : Key
  pub lease : Option ℕ
  pub run_is : r' ≡ with_page r first lease (length more)
  pub program : new ≡ after_program old (page_of r (length r.firsts)) (next_bytes r more)
  pub frame : KeepsPage pins before after (next_bytes r more) lease
  pub stands : (es : List Entry) → RunOnFlash r old.pages before es → T (is_sorted key_cmp (es ++ more)) → T (not (r.level == LEVELS) || list_all (λ e. is_some e.1) more) → RunOnFlash r' new.pages after (es ++ more)
  pub output : IsOutput r' new.pages
  pub others : OthersStand r old.pages before new.pages after
  pub cuts : Reached old new (λ flash _. SameButNext r old.pages flash)

-- the program of its next page failed
pub record FailsToProgram (r : Kept) (more : List Entry) (old new : BoardState) : Type 0 where
  pub place : length r.firsts < length r.blocks * r.shape.block_pages
  pub failed : ProgramFailed old new (page_of r (length r.firsts)) (next_bytes r more)
  pub cuts : Went old new (λ flash _. SameButNext r old.pages flash)
