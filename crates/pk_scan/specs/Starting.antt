-- A walk over the keys of a flash that has not begun.
use Rattle.std.specs.Prelude.{◌≡◌, List, ◌∷◌}
use Rattle.pk_base.{specs.Entry.Entry, specs.Page.Flash}
use Rattle.pk_pin.specs.Frames.{Frames}
use Rattle.pk_run.specs.Kept.{Kept}
use Rattle.pk_level.specs.Levels.{RunsOnFlash}
use Rattle.pk_walk.{specs.Visible.visible, specs.Walking.Walk, specs.Walking.IsLeft, specs.Walking.SkipsNone, specs.Walking.pages_read}

-- The walk has still to give all keys that exist, whatever runs and buffers it goes over, and has come past no page.
pub record IsAtStart (walk : Walk) : Type 0 where
  pub gives :
      (flash : Flash) (arena : Frames) (runs : List Kept) (active frozen : List Entry) (ess : List (List Entry))
      → RunsOnFlash flash arena runs ess → IsLeft walk flash arena runs active frozen (visible (active ∷ frozen ∷ ess))
  pub skips_none : SkipsNone walk
  pub none_read : (runs : List Kept) → pages_read runs walk.cursors ≡ 0
