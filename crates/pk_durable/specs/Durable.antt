-- What a board over an image and its log recorded, and what a crash leaves of both.
use Rattle.std.specs.Prelude.{◌≡◌, ℕ, List, [], ◌∷◌, ◌++◌, IsTrue}
use Rattle.sqlite_disk.specs.declared.Disk.{Ghosts}
use Rattle.pk_base.{specs.Shape.Shape, specs.Page.Flash, specs.Mark.Mark, specs.Mark.post, specs.Mark.after_all}
use Rattle.pk_redo.{specs.Image.ReadAs, specs.declared.redo_log.RedoLog.RedoLog}
use Rattle.pk_file.specs.Logged.{StillKeepsTrail}

-- What both files held when a board was opened, as two marks: contracts see nothing of a board but its state, so the trail begins with them.
abbrev pub opened_marks : List ℕ → List ℕ → List Mark
opened_marks log image = post log ∷ post image ∷ []

-- Some pages were read of both files when they were opened, the pages now are those after the marks since, and whatever a crash leaves is read as the
-- pages after the first of these marks, at least those before a barrier.
pub record OpenedAs {D : Type 0} (g : Ghosts D) (redo : RedoLog D g) (shape : Shape) (log image : List ℕ) (marks : List Mark) (least : ℕ) (pages : Flash) : Type 0 where
  pub start : Flash
  pub read : ReadAs shape log image start
  pub are_after : after_all shape marks start ≡ pages
  pub still : StillKeepsTrail g redo shape start marks least pages

-- the same, if neither disk has taken a wrong answer
abbrev pub KeepsOpened : {D : Type 0} → (g : Ghosts D) → RedoLog D g → Shape → List ℕ → List ℕ → List Mark → ℕ → Flash → Type 0
KeepsOpened g redo shape log image marks least pages =
    IsTrue (g.is_clean redo.log) → IsTrue (g.is_clean redo.image) → OpenedAs g redo shape log image marks least pages
