-- The arena of the frames of runs: which frames there are, and who has them.
use Rattle.std.specs.Prelude.{◌≡◌, ⊤, ℕ, suc, ◌+◌, ◌-◌, ◌<◌, ◌≤◌, Bool, true, false, nat_le, ◌&&◌, not, if◌then◌else◌, List, [], ◌∷◌, ◌++◌, length, map}
use Rattle.pk_base.{specs.Shape.Shape, specs.Shape.pinned, specs.Entry.Entry, specs.Page.Flash}
use Rattle.pk_nand.{specs.BoardState.BoardState, specs.Operations.after_read}
use Rattle.pk_adapt.specs.Adapted.{adapted}
use Rattle.pk_pin.specs.Frames.{Frames, AreLeases}
use Rattle.pk_run.{specs.Kept.Kept, specs.Kept.IsPinned, specs.Kept.RunOnFlash, specs.Kept.FillsPage, specs.Kept.is_pinned, specs.Leases.LeavesOthers}
use Rattle.pk_level.specs.Levels.{Levels, RunsOnFlash, run_of, with_run}

-- all leases of these runs
abbrev pub leases_of : List Kept → List ℕ
leases_of [] = []
leases_of (r ∷ rs) = r.leases ++ leases_of rs

-- every page of the run has a frame, or none has
abbrev pub IsPinnedIf : Bool → Kept → Type 0
IsPinnedIf true r = IsPinned r
IsPinnedIf false r = r.leases ≡ []

-- how many pages each run has
abbrev pub page_counts : List Kept → List ℕ
page_counts rs = map (λ r. length r.firsts) rs

-- the last level that may have frames, of which there are this many
abbrev pub last_level : Levels → ℕ → ℕ
last_level levels frames = adapted levels.shape frames (page_counts levels.runs)

-- of the runs from this level on, those of the levels after the last one have no frames
abbrev pub AreBareAbove : ℕ → ℕ → List Kept → Type 0
AreBareAbove last level [] = ⊤
AreBareAbove last level (r ∷ rs) = (last < level → r.leases ≡ []) × AreBareAbove last (suc level) rs

-- The arena has n frames, each of a page. Besides the leases of the runs there are these other ones; no frame has two leases, and every other
-- frame is free.
pub record HasLeases (shape : Shape) (frames : ℕ) (levels : Levels) (arena : Frames) (others : List ℕ) : Type 0 where
  pub page_bytes_is : arena.page_bytes ≡ shape.page_bytes
  pub size : length arena.used ≡ frames
  pub pinned_is : levels.pinned ≡ pinned shape frames
  pub only_these : AreLeases arena (leases_of levels.runs ++ others)

-- and no level after the last one that may have frames has some
pub record HasArena (shape : Shape) (frames : ℕ) (levels : Levels) (arena : Frames) (others : List ℕ) : Type 0 where
  pub leases : HasLeases shape frames levels arena others
  pub bare : AreBareAbove (last_level levels frames) 1 levels.runs

-- ---- pages to be filled

-- pages without a frame, of the runs from a level on, up to the last level
abbrev pub unfilled_from : ℕ → ℕ → List Kept → ℕ
unfilled_from last level [] = 0
unfilled_from last level (r ∷ rs) = (if nat_le level last then length r.firsts - length r.leases else 0) + unfilled_from last (suc level) rs

-- the pages that may have a frame and have none
abbrev pub unfilled : Levels → ℕ → ℕ
unfilled levels frames = unfilled_from (last_level levels frames) 1 levels.runs

-- a page of the run has no frame, and may have one
abbrev pub lacks : ℕ → ℕ → Kept → Bool
lacks last level r = nat_le level last && not (is_pinned r)

-- The run of this level may have a frame for each page, and lacks one.
pub record IsUnfilled (last : ℕ) (levels : Levels) (level : ℕ) : Type 0 where
  pub least : 1 ≤ level
  pub most : level ≤ last
  pub some : length (run_of levels level).leases < length (run_of levels level).firsts

-- a page more of the run of this level has a frame
pub record FillsRun (levels : Levels) (arena : Frames) (level : ℕ) (levels' : Levels) (arena' : Frames) : Type 0 where
  pub run : Kept
  pub fills : FillsPage (run_of levels level) arena run arena'
  pub levels_are : levels' ≡ with_run levels level run

-- A page of a run was read into a frame, and one page less is to be filled.
pub record FillsOne (levels : Levels) (arena : Frames) (old : BoardState) (levels' : Levels) (arena' : Frames) (new : BoardState) : Type 0 where
  pub level : ℕ
  pub above : levels.pinned < level
  pub up_to : level ≤ last_level levels (length arena.used)
  pub fills : FillsRun levels arena level levels' arena'
  pub read : new ≡ after_read old
  pub less : unfilled levels' (length arena'.used) + 1 ≡ unfilled levels (length arena.used)

-- No level that may have frames lacks one, and nothing was done.
pub record FillsNone (levels : Levels) (arena : Frames) (old : BoardState) (levels' : Levels) (arena' : Frames) (new : BoardState) : Type 0 where
  pub all : unfilled levels (length arena.used) ≡ 0
  pub same : levels' ≡ levels
  pub same_arena : arena' ≡ arena
  pub board : new ≡ old

-- ---- frames that are freed

-- the run of a level, without its frames if it is after the last level that may have some
abbrev pub bared : ℕ → ℕ → Kept → Kept
bared last level r = if nat_le level last then r else record r { leases = [] }

-- The run of this level has no frames if it is after the last level that may have some, and all others have theirs.
pub record BaresRun (level last : ℕ) (levels : Levels) (arena : Frames) (levels' : Levels) (arena' : Frames) : Type 0 where
  pub levels_are : levels' ≡ with_run levels level (bared last level (run_of levels level))
  pub stands : (flash : Flash) (es : List Entry) → RunOnFlash (run_of levels level) flash arena es → RunOnFlash (bared last level (run_of levels level)) flash arena' es
  pub others : LeavesOthers (run_of levels level).leases arena arena'
  pub leases : (front behind : List ℕ) → AreLeases arena (front ++ ((run_of levels level).leases ++ behind)) → AreLeases arena' (front ++ ((bared last level (run_of levels level)).leases ++ behind))
  pub same_bytes : arena'.page_bytes ≡ arena.page_bytes
  pub same_size : length arena'.used ≡ length arena.used

-- so of all runs
abbrev pub bare_from : ℕ → ℕ → List Kept → List Kept
bare_from last level [] = []
bare_from last level (r ∷ rs) = bared last level r ∷ bare_from last (suc level) rs

-- No level after the last one that may have frames has some, and the runs are as before.
pub record Releases (levels : Levels) (arena : Frames) (levels' : Levels) (arena' : Frames) : Type 0 where
  pub levels_are : levels' ≡ record levels { runs = bare_from (last_level levels (length arena.used)) 1 levels.runs }
  pub stand : (flash : Flash) (ess : List (List Entry)) → RunsOnFlash flash arena levels.runs ess → RunsOnFlash flash arena' levels'.runs ess
  pub arena_is : (others : List ℕ) → HasLeases levels.shape (length arena.used) levels arena others → HasArena levels.shape (length arena.used) levels' arena' others
