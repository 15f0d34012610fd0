-- Opening, part by part: the root, the epochs, the runs, the values.
use Rattle.std.specs.Prelude.{◌≡◌, ⊤, ℕ, ◌+◌, ◌-◌, ◌<◌, ◌≤◌, List, [], ◌∷◌, nat_le, true, slice_index, slice_index_or, take, drop, Result, Ok, Err}
use Rattle.std.specs.List.{AllByRecursion}
use Rattle.pk_base.{specs.declared.sizes.TheConstants.LEVELS, specs.Shape.Shape, specs.Shape.cap, specs.Shape.caps, specs.Shape.epoch_commits, specs.Shape.run_pages, specs.Key.Key}
use Rattle.pk_base.{specs.Entry.Entry, specs.Entry.Place, specs.EntryChecks.IsEntry, specs.Page.Flash, specs.Page.page_at, specs.Page.Page, specs.Refusal.Refusal, specs.Refusal.damaged}
use Rattle.pk_nand.specs.BoardState.{BoardState}
use Rattle.pk_meta.specs.Run.{run}
use Rattle.pk_rootfmt.{specs.Root.Root, specs.Root.is_root, specs.Held.Held, specs.Held.total}
use Rattle.pk_buf.specs.Table.{Table}
use Rattle.pk_jrn.{specs.Epochs.JournalEpoch, specs.Epochs.HasCommit, specs.Epochs.found_at_opening, specs.Epochs.EpochOnFlash, specs.Replays.buffer_of}
use Rattle.pk_pin.specs.Frames.{Frames, free_frames}
use Rattle.pk_run.specs.Kept.{Kept, RunOnFlash}
pub use Rattle.pk_level.specs.Levels.{HaveBlocks}
use Rattle.pk_level.{specs.Levels.Levels, specs.Levels.RunsOnFlash, specs.Levels.with_run, specs.Arenas.IsPinnedIf, specs.Arenas.leases_of}
use Rattle.pk_model.{specs.RootLimits.root_spaces, specs.Found.Found, specs.Found.found_under, specs.Found.newest_epoch, specs.Found.older_epoch, specs.Found.runs_from, specs.Values.values_of}
use Rattle.pk_live.{specs.Values.Values, specs.Lives.Lives}
use Rattle.pk_scan.{specs.Runs.LeasedMore, specs.Runs.RunsStand, specs.declared.errors.PageError.PageError, specs.declared.errors.OpenError.OpenError}
use Rattle.pk_scan.specs.declared.errors.PageError.TheVariants.{Damaged as PageDamaged, Fault as PageFault}
use Rattle.pk_scan.specs.declared.errors.OpenError.TheVariants.{NotFormatted, Damaged, Fault, Memory}
use Rattle.pk_scan.specs.Opening.{FaultCounted, OnlyReads}

-- Why a part was not read, by what the reading of the flash has for it: it refuses in the same way and no read failed, or a read
-- failed, or memory was wanting and no read failed.
abbrev pub PartNotOpened : {X : Type 0} → Result X Refusal → BoardState → BoardState → OpenError → Type 0
PartNotOpened part old new NotFormatted = ⊥
PartNotOpened part old new (Damaged page) = (part ≡ Err (damaged page)) × OnlyReads old new
PartNotOpened part old new Fault = FaultCounted old new
PartNotOpened part old new Memory = OnlyReads old new

-- why a part that takes no memory was not read: the reading of the flash refuses it in the same way and no read failed, or a read failed
abbrev pub PartNotRead : {X : Type 0} → Result X Refusal → BoardState → BoardState → PageError → Type 0
PartNotRead part old new (PageDamaged page) = (part ≡ Err (damaged page)) × OnlyReads old new
PartNotRead part old new PageFault = FaultCounted old new

-- the reading of an epoch finds these entries, and the write buffer holds them
pub record HoldsEpoch (shape : Shape) (read : Result (List Entry) Refusal) (into : Table) (entries : List Entry) : Type 0 where
  pub finds : read ≡ Ok entries
  pub held : into ≡ buffer_of shape entries
  pub each : AllByRecursion (IsEntry shape) entries

-- the older epoch, if the root names one
abbrev pub OlderHeld : Shape → Flash → Root → Table → Type 0
OlderHeld shape flash root into = (entries : List Entry) × HoldsEpoch shape (older_epoch shape (page_at flash) root) into entries

-- The newest epoch takes no more pages; those that are written are those before the first that is not Whole.
abbrev pub IsFoundEpoch : Shape → Flash → Root → JournalEpoch → Type 0
IsFoundEpoch shape flash root epoch =
    (used : ℕ) × (epoch ≡ found_at_opening shape root.epoch root.newest used) × (used < epoch_commits shape → HasCommit shape flash root.newest used → ⊥)

-- the reading of the newest epoch finds entries, which the write buffer holds, and the epoch is the one that was found
abbrev pub NewestHeld : Shape → Flash → Root → Table → JournalEpoch → Type 0
NewestHeld shape flash root into epoch =
    ((entries : List Entry) × HoldsEpoch shape (newest_epoch shape (page_at flash) root) into entries)
    × IsFoundEpoch shape flash root epoch × EpochOnFlash epoch flash

-- The runs from this level on have this many entries; each page has a frame up to the last level that is pinned, and none after it.
abbrev pub HaveFrames : ℕ → ℕ → List Kept → List ℕ → Type 0
HaveFrames pinned level [] [] = ⊤
HaveFrames pinned level [] (count ∷ counts) = ⊥
HaveFrames pinned level (r ∷ rs) [] = ⊥
HaveFrames pinned level (r ∷ rs) (count ∷ counts) = (r.count ≡ count) × IsPinnedIf (nat_le level pinned) r × HaveFrames pinned (level + 1) rs counts

-- the reading of the runs finds these lists, and the levels represent them, with the blocks that the root names
pub record HoldsRuns (shape : Shape) (flash : Flash) (root : Root) (arena : Frames) (levels : Levels) (ess : List (List Entry)) : Type 0 where
  pub finds : runs_from shape (root_spaces shape root) (page_at flash) 1 root.counts root.runs ≡ Ok ess
  pub stand : RunsOnFlash flash arena levels.runs ess
  pub run_blocks : HaveBlocks shape levels.runs root.runs
  pub run_frames : HaveFrames levels.pinned 1 levels.runs root.counts

-- the reading of the run of a level under a root
abbrev pub level_of : Held → (ℕ → Page) → ℕ → Result (List Entry) Refusal
level_of root at level = run root.shape (root_spaces root.shape root.root) at level (slice_index root.root.counts (level - 1)) (slice_index_or root.root.runs (level - 1) [])

-- how many pages it has
abbrev pub level_reads : Held → ℕ → ℕ
level_reads root level = run_pages root.shape (slice_index root.root.counts (level - 1))

-- The run of a level was read, and is in its place with its blocks; its frames were free, those of the others are unchanged,
-- and this many are still free.
pub record LoadsLevel (shape : Shape) (root : Root) (level : ℕ) (flash : Flash) (before after : Frames) (old new : Levels) : Type 0 where
  pub entries : List Entry
  pub kept : Kept
  pub finds : run shape (root_spaces shape root) (page_at flash) level (slice_index root.counts (level - 1)) (slice_index_or root.runs (level - 1) []) ≡ Ok entries
  pub stands : RunOnFlash kept flash after entries
  pub shape_is : kept.shape ≡ shape
  pub blocks_are : kept.blocks ≡ slice_index_or root.runs (level - 1) []
  pub count_is : kept.count ≡ slice_index root.counts (level - 1)
  pub frames : IsPinnedIf (nat_le level old.pinned) kept
  pub levels : new ≡ with_run old level kept
  pub others : RunsStand before after
  pub more : LeasedMore before after kept.leases
  pub pinned : level ≤ old.pinned → free_frames before ≤ free_frames after + cap shape level
  pub unpinned : old.pinned < level → free_frames before ≤ free_frames after

-- This many frames are needed for the levels after the first ones, if this many levels are pinned.
abbrev pub wanted_behind : Shape → ℕ → ℕ → ℕ
wanted_behind shape pinned levels = total (drop levels (take pinned (caps shape)))

-- The run of a level may be read under a root: the levels and the arena have its shape, and frames are free if the level is pinned.
pub record MayLoadLevel (root : Held) (level : ℕ) (arena : Frames) (levels : Levels) : Type 0 where
  pub least : 1 ≤ level
  pub most : level ≤ LEVELS
  pub grammar : is_root root.shape root.root ≡ true
  pub shape_is : levels.shape ≡ root.shape
  pub page_bytes : arena.page_bytes ≡ root.shape.page_bytes
  pub free : level ≤ levels.pinned → cap root.shape level ≤ free_frames arena

-- All four runs may be read under a root: frames are free for all levels that are pinned.
pub record MayLoadRuns (root : Held) (arena : Frames) (levels : Levels) : Type 0 where
  pub grammar : is_root root.shape root.root ≡ true
  pub shape_is : levels.shape ≡ root.shape
  pub page_bytes : arena.page_bytes ≡ root.shape.page_bytes
  pub free : wanted_behind root.shape levels.pinned 0 ≤ free_frames arena

-- The four runs were read, each at its level, and their frames were free.
pub record LoadsRuns (root : Held) (flash : Flash) (before after : Frames) (old new : Levels) : Type 0 where
  pub ess : List (List Entry)
  pub held : HoldsRuns root.shape flash root.root after new ess
  pub more : LeasedMore before after (leases_of new.runs)
  pub pinned_is : new.pinned ≡ old.pinned
  pub shape_is : new.shape ≡ old.shape

-- what a page's error is for the whole flash
abbrev pub opening_of : PageError → OpenError
opening_of (PageDamaged page) = Damaged page
opening_of PageFault = Fault

-- What is found under the root is in memory: the newest epoch in the active buffer, the older one in the frozen buffer, and the
-- runs in the levels, with the blocks that the root names.
pub record HoldsFound (shape : Shape) (flash : Flash) (root : Root) (active frozen : Table) (epoch : JournalEpoch) (arena : Frames) (levels : Levels) (found : Found) : Type 0 where
  pub finds : found_under shape (page_at flash) root ≡ Ok found
  pub active_is : active ≡ buffer_of shape found.newest
  pub frozen_is : frozen ≡ buffer_of shape found.older
  pub stand : RunsOnFlash flash arena levels.runs found.runs
  pub run_blocks : HaveBlocks shape levels.runs root.runs
  pub run_frames : HaveFrames levels.pinned 1 levels.runs root.counts
  pub epoch_is : IsFoundEpoch shape flash root epoch
  pub epoch_fits : EpochOnFlash epoch flash

-- The reading of the flash finds values at these places, one after another, and the live map represents them.
pub record ReadsValues (shape : Shape) (flash : Flash) (limits named : List ℕ) (live : Values) (es : List (Key × Place)) : Type 0 where
  pub values : List (Key × List ℕ)
  pub read : values_of shape (page_at flash) limits named [] es ≡ Ok values
  pub lives : Lives shape named live es
