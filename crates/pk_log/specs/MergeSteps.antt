-- The install of a merge over a log, in two steps: the erase before its root, if one is next, and its first program.
use Rattle.std.specs.Prelude.{◌≡◌, ℕ, ◌+◌, ◌<◌, ◌≤◌, List, [], ◌==◌, if◌then◌else◌, true}
use Rattle.pk_base.{specs.Page.Flash, specs.Page.SameBehind, specs.Map.Map, specs.Merge.room}
use Rattle.pk_nand.specs.BoardState.{BoardState}
use Rattle.pk_rootfmt.specs.Root.{Root, last_number}
use Rattle.pk_root.specs.Installing.{programs_next}
use Rattle.pk_buf.specs.Table.{Table}
use Rattle.pk_model.{specs.Found.Found, specs.Growth.Reaches, specs.Growth.Goes, specs.Crashes.CrashFinds, specs.Crashes.background, specs.Wear.root_number}
use Rattle.pk_law_steps.{specs.Under.IsUnder, specs.Merging.IsMerged, specs.Merging.merged_root, specs.Merging.merged_found}
use Rattle.pk_compact.specs.Installing.{IsHalf}
use Rattle.pk_log.{specs.State.LogState, specs.Logs.LogOnFlash}

-- ---- the erase

-- The log matches the flash, whose map this is.
pub record MayPrepare (log : LogState) (flash : Flash) (top : ℕ × Root) (found : Found) (m : Map) : Type 0 where
  pub logs : LogOnFlash log flash top found
  pub under : IsUnder log.shape flash [] top found m

-- The log is as before, but that the first program of the next root is next; the map is the same wherever the erase is cut.
pub record LogPrepared (log : LogState) (old : BoardState) (top : ℕ × Root) (found : Found) (m : Map) (log' : LogState) (new : BoardState) : Type 0 where
  pub same_log : log' ≡ record log { next = log'.next }
  pub programs : programs_next log'.next ≡ true
  pub logs : LogOnFlash log' new.pages top found
  pub under : IsUnder log.shape new.pages [] top found m
  pub behind : SameBehind log.shape old.pages new.pages
  pub cuts : Reaches log.shape old new (CrashFinds log.shape background old.pages m)

-- so for each of the maps that it might have
abbrev pub LogPrepares : LogState → BoardState → LogState → BoardState → Type 0
LogPrepares log old log' new =
    (top : ℕ × Root) (found : Found) (m : Map) → MayPrepare log old.pages top found m → LogPrepared log old top found m log' new

-- the same of an erase that failed
abbrev pub LogPrepareBreaks : LogState → BoardState → BoardState → Type 0
LogPrepareBreaks log old new =
    (top : ℕ × Root) (found : Found) (m : Map) → MayPrepare log old.pages top found m
    → Goes log.shape old new (CrashFinds log.shape background old.pages m)

-- ---- the first program

-- The log matches the flash, and the output of the next merge, of n entries, is in these blocks.
pub record MayMerge (log : LogState) (flash : Flash) (top : ℕ × Root) (found : Found) (m : Map) (level count : ℕ) (taken : List ℕ) : Type 0 where
  pub logs : LogOnFlash log flash top found
  pub under : IsUnder log.shape flash [] top found m
  pub merged : IsMerged log.shape flash [] top found level count taken
  pub few : count ≤ room log.shape level
  pub number : log.root.number < last_number

-- of a log only the root, what its installer does next, and the frozen buffer may differ
abbrev pub KeepsActive : LogState → LogState → Type 0
KeepsActive log log' = log' ≡ record log { root = log'.root; next = log'.next; frozen = log'.frozen }

-- a merge into level 1 empties the frozen buffer
abbrev pub frozen_after : ℕ → Table → Table
frozen_after level frozen = if level == 1 then record frozen { entries = [] } else frozen

-- The log is under the root of the merge, which is the newest one, with its pair half made; of the log only this, what its installer does next, and the frozen buffer differ. The
-- map is the same wherever the program is cut.
pub record LogMerged (log : LogState) (old : BoardState) (top : ℕ × Root) (found : Found) (m : Map) (level count : ℕ) (taken : List ℕ) (log' : LogState) (new : BoardState) : Type 0 where
  pub page : ℕ
  pub merged_is : log' ≡ record log { root = merged_root top.1 level count taken; next = log'.next; frozen = frozen_after level log.frozen }
  pub logs : LogOnFlash log' new.pages (page, log'.root) (merged_found level found)
  pub under : IsUnder log.shape new.pages [] (page, log'.root) (merged_found level found) m
  pub half : IsHalf log.shape log'.next new.pages m
  pub number : root_number log.shape new.pages ≡ root_number log.shape old.pages + 1
  pub behind : SameBehind log.shape old.pages new.pages
  pub cuts : Reaches log.shape old new (CrashFinds log.shape background old.pages m)

-- so for each of the maps that it might have
abbrev pub LogMerges : LogState → BoardState → ℕ → ℕ → List ℕ → LogState → BoardState → Type 0
LogMerges log old level count taken log' new =
    (top : ℕ × Root) (found : Found) (m : Map) → MayMerge log old.pages top found m level count taken
    → LogMerged log old top found m level count taken log' new

-- the same of a program that failed
abbrev pub LogMergeBreaks : LogState → BoardState → ℕ → ℕ → List ℕ → BoardState → Type 0
LogMergeBreaks log old level count taken new =
    (top : ℕ × Root) (found : Found) (m : Map) → MayMerge log old.pages top found m level count taken
    → Goes log.shape old new (CrashFinds log.shape background old.pages m)
