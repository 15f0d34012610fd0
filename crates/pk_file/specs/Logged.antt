-- What a crash leaves of a board whose changes go to a log.
use Rattle.std.specs.Prelude.{◌≡◌, ◌⊎◌, ℕ, ◌≤◌, List, ◌++◌, length}
use Rattle.sqlite_disk.specs.declared.Disk.{Ghosts}
use Rattle.pk_base.{specs.Shape.Shape, specs.Page.Flash, specs.Mark.Mark, specs.Mark.after_all}
use Rattle.pk_redo.{specs.Image.ReadAs, specs.Kept.KeepsPages, specs.declared.redo_log.RedoLog.RedoLog, specs.declared.redo_log.LogState.TheVariants.Ended}

-- the pages after the first steps of a trail, at least these many
pub record AfterPrefix (shape : Shape) (start : Flash) (trail : List Mark) (least : ℕ) (flash : Flash) : Type 0 where
  pub first : List Mark
  pub later : List Mark
  pub in_order : first ++ later ≡ trail
  pub enough : least ≤ length first
  pub gives : after_all shape first start ≡ flash

-- Whatever a crash leaves of both files, it is read as the pages after the first steps of a trail, at least these many.
abbrev pub ReadsPrefix : {D : Type 0} → (g : Ghosts D) → RedoLog D g → Shape → Flash → List Mark → ℕ → Type 0
ReadsPrefix g redo shape start trail least =
    (l i : List ℕ) → g.may_leave redo.log l → g.may_leave redo.image i → (flash : Flash) × ReadAs shape l i flash × AfterPrefix shape start trail least flash

-- The pages of a board are those after a trail of steps, and a crash keeps those after its first steps, at least these many.
pub record KeepsTrail {D : Type 0} (g : Ghosts D) (redo : RedoLog D g) (shape : Shape) (start : Flash) (trail : List Mark) (least : ℕ) (pages : Flash) : Type 0 where
  pub kept : Flash
  pub is_prefix : AfterPrefix shape start trail least kept
  pub keeps : KeepsPages g redo kept pages
  pub are_after : after_all shape trail start ≡ pages
  pub same_shape : redo.shape ≡ shape

-- the same; or nothing more is written, and what a crash leaves is read as the pages after such steps
abbrev pub StillKeepsTrail : {D : Type 0} → (g : Ghosts D) → RedoLog D g → Shape → Flash → List Mark → ℕ → Flash → Type 0
StillKeepsTrail g redo shape start trail least pages =
    KeepsTrail g redo shape start trail least pages ⊎ ((redo.state ≡ Ended) × ReadsPrefix g redo shape start trail least)
