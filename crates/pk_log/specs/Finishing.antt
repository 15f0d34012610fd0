-- The second program of the newest root.
use Rattle.std.specs.Prelude.{◌≡◌, ℕ, ◌+◌, [], slice_set, false}
use Rattle.pk_base.{specs.Page.Flash, specs.Page.whole as whole_page, specs.Page.SameBehind, specs.Map.Map}
use Rattle.pk_nand.specs.BoardState.{BoardState}
use Rattle.pk_rootfmt.specs.Root.{Root, root_bytes}
use Rattle.pk_root.specs.Installing.{repeats_next}
use Rattle.pk_model.{specs.Found.Found, specs.Growth.Reaches, specs.Growth.Goes, specs.Crashes.CrashFinds, specs.Crashes.background, specs.Wear.root_number}
use Rattle.pk_law_steps.specs.Under.{IsUnder}
use Rattle.pk_compact.specs.Installing.{IsHalf}
use Rattle.pk_log.{specs.State.LogState, specs.Logs.LogOnFlash}

-- The log matches the flash, whose map this is, and the pair of its root is half made.
pub record MayFinish (log : LogState) (flash : Flash) (top : ℕ × Root) (found : Found) (m : Map) : Type 0 where
  pub logs : LogOnFlash log flash top found
  pub under : IsUnder log.shape flash [] top found m
  pub half : IsHalf log.shape log.next flash m

-- The pair is whole: its second page has the root as well, and no other page differs. The log is as before, but for what its installer does
-- next. The map is the same wherever the program is cut.
pub record LogFinished (log : LogState) (old : BoardState) (top : ℕ × Root) (found : Found) (m : Map) (log' : LogState) (new : BoardState) : Type 0 where
  pub same_log : log' ≡ record log { next = log'.next }
  pub whole : repeats_next log'.next ≡ false
  pub pages : new.pages ≡ slice_set old.pages (top.0 + 1) (whole_page (root_bytes log.shape top.1))
  pub logs : LogOnFlash log' new.pages top found
  pub under : IsUnder log.shape new.pages [] top found m
  pub number : root_number log.shape new.pages ≡ root_number log.shape old.pages
  pub behind : SameBehind log.shape old.pages new.pages
  pub cuts : Reaches log.shape old new (CrashFinds log.shape background old.pages m)

-- so for each of the maps that it might have
abbrev pub LogFinishes : LogState → BoardState → LogState → BoardState → Type 0
LogFinishes log old log' new =
    (top : ℕ × Root) (found : Found) (m : Map) → MayFinish log old.pages top found m → LogFinished log old top found m log' new

-- the same of a program that failed
abbrev pub LogFinishBreaks : LogState → BoardState → BoardState → Type 0
LogFinishBreaks log old new =
    (top : ℕ × Root) (found : Found) (m : Map) → MayFinish log old.pages top found m
    → Goes log.shape old new (CrashFinds log.shape background old.pages m)
