-- A run of meta pages that is read from a flash, page by page.
use Rattle.std.specs.Prelude.{◌≡◌, ℕ, ◌+◌, ◌-◌, ◌*◌, ◌<◌, ◌≤◌, T, Bool, true, false, not, ◌||◌, ◌==◌, is_some, List, [], ◌∷◌, ◌++◌, length, slice_index, Option, Some, None, Ok, Err}
use Rattle.std.{specs.List.list_all, specs.List.AllByRecursion, specs.Ordering.is_lt, specs.FinMap.Entries.is_sorted}
use Rattle.pk_base.{specs.declared.sizes.TheConstants.LEVELS, specs.Key.Key, specs.Key.key_cmp, specs.Entry.Entry, specs.Entry.key_of, specs.EntryChecks.IsEntry, specs.Refusal.damaged}
use Rattle.pk_base.specs.Shape.{Shape, cap, page_entries, run_pages, run_blocks}
use Rattle.pk_base.specs.Page.{Flash, page_at, page_in, whole, pages_of_blocks}
use Rattle.pk_meta.{specs.Page.meta_entries, specs.Run.may_hold, specs.Run.meta, specs.Run.run}
use Rattle.pk_nand.{specs.BoardState.BoardState, specs.Calls.Rose, specs.Operations.ReadFailed, specs.Operations.after_read, specs.Counts.after_reads}
use Rattle.pk_pin.specs.Frames.{Frames, IsLeased, frame_of, free_frames, AreLeases}
use Rattle.pk_run.specs.Kept.{Kept, RunOnFlash, empty, page_of, most_pages, with_page}
use Rattle.pk_level.specs.Arenas.{IsPinnedIf}
use Rattle.pk_scan.{specs.declared.errors.PageError.PageError, specs.declared.errors.PageError.TheVariants.Damaged, specs.declared.errors.PageError.TheVariants.Fault}

-- each of these is a block of the flash
abbrev pub RunBlocksExist : Shape → List ℕ → Type 0
RunBlocksExist shape blocks = (n : ℕ) → n < length blocks → slice_index blocks n < shape.blocks

module _ (shape : Shape) (spaces level count : ℕ) (blocks : List ℕ) where
  -- The reading of the run finds entries, and what is in memory represents them.
  pub record HasRun (flash : Flash) (arena : Frames) (r : Kept) : Type 0 where
    pub entries : List Entry
    pub read : run shape spaces (page_at flash) level count blocks ≡ Ok entries
    pub each : AllByRecursion (IsEntry shape) entries
    pub counted : r.count ≡ count
    pub stands : RunOnFlash r flash arena entries

  -- after this many pages the reading of the run has these entries, and goes on with the other pages
  abbrev pub ComesTo : Flash → ℕ → List Entry → Type 0
  ComesTo flash index es =
      run shape spaces (page_at flash) level count blocks ≡ meta shape spaces level count index es (pages_of_blocks shape (page_at flash) blocks index (run_pages shape count - index))

  -- The reading of the run refuses with this page, after which nothing was read.
  pub record RunRefused (old new : BoardState) (page : ℕ) : Type 0 where
    pub index : ℕ
    pub within : index < run_pages shape count
    pub page_is : page ≡ page_in shape blocks index
    pub read : run shape spaces (page_at old.pages) level count blocks ≡ Err (damaged page)
    pub board : new ≡ after_reads (index + 1) old

  -- A read failed, after pages that the reading of the run does not refuse.
  pub record RunFailed (old new : BoardState) : Type 0 where
    pub made : ℕ
    pub within : made < run_pages shape count
    pub comes : (es : List Entry) × ComesTo old.pages made es
    pub failed : ReadFailed (after_reads made old) new (page_in shape blocks made)
    pub flash : Rose old.flash_faults new.flash_faults
    pub read : Rose old.read_faults new.read_faults

  -- why the run was not read
  abbrev pub NotRead : BoardState → BoardState → PageError → Type 0
  NotRead old new (Damaged page) = RunRefused old new page
  NotRead old new Fault = RunFailed old new

-- Of an arena these free frames were leased, one after another; whoever had a frame has it, with what it contained.
pub record LeasedMore (old new : Frames) (more : List ℕ) : Type 0 where
  pub page : new.page_bytes ≡ old.page_bytes
  pub size : length new.used ≡ length old.used
  pub kept : (i : ℕ) → IsLeased old i → IsLeased new i × (frame_of new i ≡ frame_of old i)
  pub free : free_frames new + length more ≡ free_frames old
  pub leases : (ls : List ℕ) → AreLeases old ls → AreLeases new (more ++ ls)

-- each run that matches with the frames of one arena matches with those of the other
abbrev pub RunsStand : Frames → Frames → Type 0
RunsStand old new = (r : Kept) (flash : Flash) (es : List Entry) → RunOnFlash r flash old es → RunOnFlash r flash new es

-- A run of n entries may be read from these blocks: they exist and have room for its pages and no others, nothing was read into
-- it, and if frames are needed, enough are free.
pub record MayLoadRun (pins : Bool) (count : ℕ) (blocks : List ℕ) (arena : Frames) (r : Kept) : Type 0 where
  pub is_empty : r ≡ empty r.shape r.level
  pub few : count ≤ cap r.shape r.level * page_entries r.shape
  pub places : length blocks ≡ run_blocks r.shape count
  pub exist : RunBlocksExist r.shape blocks
  pub page_bytes : arena.page_bytes ≡ r.shape.page_bytes
  pub free : pins ≡ true → run_pages r.shape count ≤ free_frames arena

-- Pages of a run were read into it: it represents those, and their frames were free, if they have some. Its blocks are these, and
-- all other runs are unchanged.
pub record LoadsPages (pins : Bool) (flash : Flash) (blocks : List ℕ) (before after : Frames) (old new : Kept) : Type 0 where
  pub es : List Entry
  pub stands : RunOnFlash new flash after es
  pub shape_is : new.shape ≡ old.shape
  pub level_is : new.level ≡ old.level
  pub blocks_are : new.blocks ≡ blocks
  pub pinned : IsPinnedIf pins new
  pub more : LeasedMore before after new.leases
  pub others : RunsStand before after

-- ---- inside

-- The run has the blocks of n entries, and none of their pages yet; if frames are needed, enough are free.
pub record AwaitsPages (pins : Bool) (count : ℕ) (flash : Flash) (arena : Frames) (r : Kept) : Type 0 where
  pub exist : RunBlocksExist r.shape r.blocks
  pub few : count ≤ cap r.shape r.level * page_entries r.shape
  pub places : length r.blocks ≡ run_blocks r.shape count
  pub no_entries : r.count ≡ 0
  pub no_pages : r.firsts ≡ []
  pub no_leases : r.leases ≡ []
  pub stands : RunOnFlash r flash arena []
  pub page_bytes : arena.page_bytes ≡ r.shape.page_bytes
  pub free : pins ≡ true → run_pages r.shape count ≤ free_frames arena

-- The run may take a next page with n entries: all pages before are full, it has room and a block for one more, and if a frame is
-- needed one is free.
pub record AwaitsPage (pins : Bool) (many : ℕ) (arena : Frames) (r : Kept) : Type 0 where
  pub exist : RunBlocksExist r.shape r.blocks
  pub within : length r.firsts < length r.blocks * r.shape.block_pages
  pub room : length r.firsts < most_pages r
  pub full : r.count ≡ length r.firsts * page_entries r.shape
  pub some : (1 ≤ many) × (many ≤ page_entries r.shape)
  pub pinned : IsPinnedIf pins r
  pub page_bytes : arena.page_bytes ≡ r.shape.page_bytes
  pub free : pins ≡ true → 0 < free_frames arena

-- the last of these entries has this key; there is none if there is no key
abbrev pub IsLast : Option Key → List Entry → Type 0
IsLast None es = es ≡ []
IsLast (Some key) es = (front : List Entry) × (e : Entry) × (es ≡ front ++ e ∷ []) × (key_of e ≡ key)

-- the key is above the last one, if there is one
abbrev pub is_behind : Option Key → Key → Bool
is_behind None key = true
is_behind (Some last) key = is_lt (key_cmp last key)

-- none of these keys was deleted
abbrev pub are_put : List Entry → Bool
are_put es = list_all (λ e. is_some e.1) es

-- The page of this level and index has n entries, which follow those before.
pub record RunGoesOn (shape : Shape) (spaces level index many : ℕ) (before : List Entry) (bytes : List ℕ) (more : List Entry) : Type 0 where
  pub holds : meta_entries shape level index many bytes ≡ Some more
  pub rising : T (is_sorted key_cmp (before ++ more))
  -- the entries are of namespaces of the drive, and the deepest run keeps no deleted keys
  pub stands : T (may_hold spaces level more)

-- whether some entries go on so
abbrev pub GoesOnOr : Shape → ℕ → ℕ → ℕ → ℕ → List Entry → List ℕ → Bool → Type 0
GoesOnOr shape spaces level index many before bytes true = (more : List Entry) × RunGoesOn shape spaces level index many before bytes more
GoesOnOr shape spaces level index many before bytes false = (more : List Entry) → RunGoesOn shape spaces level index many before bytes more → ⊥

-- the frame of a page, if it has one, as a list
abbrev pub listed : Option ℕ → List ℕ
listed None = []
listed (Some lease) = lease ∷ []

-- The next page of the run has n entries, and is in it now.
pub record PageAdded (pins : Bool) (before after : Frames) (old new : Kept) (many : ℕ) : Type 0 where
  pub first : Key
  pub lease : Option ℕ
  pub run : new ≡ with_page old first lease many
  pub wanted : is_some lease ≡ pins
  pub more : LeasedMore before after (listed lease)

-- Its entries follow es, and the last one has this key.
pub record PageTaken (spaces : ℕ) (flash : Flash) (after : Frames) (old new : Kept) (es : List Entry) (many : ℕ) (last : Key) : Type 0 where
  pub bytes : List ℕ
  pub more : List Entry
  pub here : page_at flash (page_of old (length old.firsts)) ≡ whole bytes
  pub goes_on : RunGoesOn old.shape spaces old.level (length old.firsts) many es bytes more
  pub stands : RunOnFlash new flash after (es ++ more)
  pub ends : IsLast (Some last) (es ++ more)

-- The next page of the run was read, and has no entries that follow es; or its read failed.
abbrev pub PageRefused : ℕ → BoardState → BoardState → Kept → List Entry → ℕ → PageError → Type 0
PageRefused spaces old new r es many (Damaged page) =
    (page ≡ page_of r (length r.firsts)) × (new ≡ after_read old)
    × ((bytes : List ℕ) (more : List Entry) → page_at old.pages (page_of r (length r.firsts)) ≡ whole bytes → RunGoesOn r.shape spaces r.level (length r.firsts) many es bytes more → ⊥)
PageRefused spaces old new r es many Fault = ReadFailed old new (page_of r (length r.firsts))
