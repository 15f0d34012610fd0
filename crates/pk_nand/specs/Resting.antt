-- A flash that rests: from one state of a board to a later one bytes may be posted, and no page changes.
use Rattle.std.specs.Prelude.{◌≡◌, ℕ, List}
use Rattle.pk_base.{specs.Page.Flash, specs.Mark.Mark}
use Rattle.pk_nand.{specs.BoardState.BoardState, specs.Crash.ReachedBy}

-- these are the pages, whatever was posted
abbrev pub Standing : Flash → Flash → List ℕ → Type 0
Standing pages flash posted = flash ≡ pages

-- by marks of which every cut has the pages of the first
pub record RestsFlash (old new : BoardState) : Type 0 where
  pub marks : List Mark
  pub reached : ReachedBy marks old new (Standing old.pages)
