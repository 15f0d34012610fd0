-- What changes of a flash leave of a log: the statements.
use Rattle.std.specs.Prelude.{◌≡◌, ◌⊎◌, ℕ, ◌<◌}
use Rattle.pk_base.{specs.Shape.Shape, specs.Shape.root_pages, specs.Page.Flash, specs.Page.page_at}
use Rattle.pk_rootfmt.specs.Root.{Root}
use Rattle.pk_model.specs.Found.{Found}
use Rattle.pk_law_steps.specs.Under.{IsNamed}
use Rattle.pk_log.{specs.State.LogState, specs.Logs.LogOnFlash}

-- no page of the root blocks, and of the blocks that the root names, differs
abbrev pub SameNamed : Shape → Root → Flash → Flash → Type 0
SameNamed shape root old new = (k : ℕ) → (k < root_pages shape) ⊎ IsNamed shape root k → page_at new k ≡ page_at old k

-- then a log is as before
abbrev pub LogsElsewhere : Type 0
LogsElsewhere = (log : LogState) (old new : Flash) (top : ℕ × Root) (found : Found) → SameNamed log.shape top.1 old new → LogOnFlash log old top found → LogOnFlash log new top found
