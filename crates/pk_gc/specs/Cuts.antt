-- What every cut of the commit of the moves holds, by either of its two programs: the statements.
use Rattle.std.specs.Prelude.{◌≡◌, ℕ, ◌-◌, ◌<◌, List, [], Some, false}
use Rattle.pk_base.{specs.Key.Key, specs.Shape.Shape, specs.Shape.IsShape, specs.Page.Flash, specs.Page.page_at, specs.Entry.Place, specs.Map.Map}
use Rattle.pk_nand.{specs.BoardState.BoardState, specs.Calls.IsReady}
use Rattle.pk_rootfmt.{specs.Root.Root, specs.Newest.newest_root}
use Rattle.pk_jrn.specs.Epochs.{JournalEpoch, left_of, EpochOnFlash}
use Rattle.pk_jrn.specs.Appends.{last_bytes, IsHalfMade, BeginsCommit, EndsCommit, FailsToBegin, FailsToEnd}
use Rattle.pk_model.{specs.Found.Found, specs.Laws.IsCommit, specs.Growth.Reaches, specs.Growth.Goes, specs.Crashes.CrashFinds, specs.Crashes.background}
use Rattle.pk_law_steps.{specs.Under.IsUnder, specs.Roots.committed}
use Rattle.pk_law_moves.specs.Moves.{entries_of, CanMove}

-- the epoch is the newest one of the root
pub record Journals (shape : Shape) (e : JournalEpoch) (flash : Flash) (top : ℕ × Root) : Type 0 where
  pub is_shape : IsShape shape
  pub is_top : newest_root shape (page_at flash) ≡ Some top
  pub epoch_shape : e.shape ≡ shape
  pub epoch_number : e.number ≡ top.1.epoch
  pub epoch_blocks : e.blocks ≡ top.1.newest
  pub epoch_fits : EpochOnFlash e flash

-- The commit of these moves is half made: the map was on a former flash, on which the values could be moved, and since then the first of the
-- commit's two programs was made.
pub record IsHalfMoved (shape : Shape) (e : JournalEpoch) (former flash : Flash) (top : ℕ × Root) (was : Found) (m : Map) (moves : List (Key × Place)) (blocks : List ℕ) : Type 0 where
  pub is_shape : IsShape shape
  pub epoch_shape : e.shape ≡ shape
  pub epoch_blocks : e.blocks ≡ top.1.newest
  pub stood : IsUnder shape former [] top was m
  pub can : CanMove shape former [] top.1 was moves blocks
  pub commit : IsCommit shape former top.1 (entries_of moves) (e.used - 1) (last_bytes e (entries_of moves))
  pub half : IsHalfMade e (entries_of moves) former flash

-- The values are found at their new places, and wherever the step is cut, the map is the same.
pub record MovesStand (shape : Shape) (old : BoardState) (top : ℕ × Root) (was : Found) (m : Map) (moves : List (Key × Place)) (new : BoardState) : Type 0 where
  pub under : IsUnder shape new.pages [] top (committed was (entries_of moves)) m
  pub cuts : Reaches shape old new (CrashFinds shape background old.pages m)

-- the first program of the commit
abbrev pub CommitBegins : Type 0
CommitBegins =
    (shape : Shape) (old new : BoardState) (top : ℕ × Root) (found : Found) (m : Map) (moves : List (Key × Place)) (blocks : List ℕ) (e e' : JournalEpoch) → IsReady old shape
    → Journals shape e old.pages top → 0 < left_of e → e.half ≡ false → IsUnder shape old.pages [] top found m → CanMove shape old.pages [] top.1 found moves blocks
    → BeginsCommit e (entries_of moves) old e' new
    → IsHalfMoved shape e' old.pages new.pages top found m moves blocks × MovesStand shape old top found m moves new

abbrev pub CommitBeginFails : Type 0
CommitBeginFails =
    (shape : Shape) (old new : BoardState) (top : ℕ × Root) (found : Found) (m : Map) (moves : List (Key × Place)) (blocks : List ℕ) (e : JournalEpoch) → IsReady old shape
    → Journals shape e old.pages top → 0 < left_of e → e.half ≡ false → IsUnder shape old.pages [] top found m → CanMove shape old.pages [] top.1 found moves blocks
    → FailsToBegin e (entries_of moves) old new → Goes shape old new (CrashFinds shape background old.pages m)

-- the second one
abbrev pub CommitEnds : Type 0
CommitEnds =
    (shape : Shape) (old new : BoardState) (former : Flash) (top : ℕ × Root) (was : Found) (m : Map) (moves : List (Key × Place)) (blocks : List ℕ) (e e' : JournalEpoch) → IsReady old shape
    → IsHalfMoved shape e former old.pages top was m moves blocks → EndsCommit e (entries_of moves) old e' new → MovesStand shape old top was m moves new

abbrev pub CommitEndFails : Type 0
CommitEndFails =
    (shape : Shape) (old new : BoardState) (former : Flash) (top : ℕ × Root) (was : Found) (m : Map) (moves : List (Key × Place)) (blocks : List ℕ) (e : JournalEpoch) → IsReady old shape
    → IsHalfMoved shape e former old.pages top was m moves blocks → FailsToEnd e (entries_of moves) old new → Goes shape old new (CrashFinds shape background old.pages m)
