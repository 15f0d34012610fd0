-- What a freeze makes of what is under the root, as a root that may follow: the statement.
use Rattle.std.specs.Prelude.{◌≡◌, ℕ, ◌<◌, List, [], ◌∷◌, true}
use Rattle.pk_base.{specs.Shape.Shape, specs.Shape.IsShape, specs.Shape.epoch_pages, specs.Page.Flash, specs.Page.page_at, specs.Page.erased, specs.Page.page_in, specs.Entry.Entry, specs.Map.Map}
use Rattle.pk_rootfmt.specs.Root.{Root, is_root}
use Rattle.pk_model.specs.Found.{Found}
use Rattle.pk_law_steps.{specs.Under.IsUnder, specs.Roots.frozen_root, specs.Roots.frozen, specs.Next.IsNext}

-- Nothing is frozen, these two blocks are Erased, and the root that follows can be written.
pub record IsFrozen (shape : Shape) (flash : Flash) (top : ℕ × Root) (found : Found) (first second : ℕ) : Type 0 where
  pub none_older : found.older ≡ []
  pub grammar : is_root shape (frozen_root top.1 found first second) ≡ true
  pub are_erased : (j : ℕ) → j < epoch_pages shape → page_at flash (page_in shape (first ∷ second ∷ []) j) ≡ erased

-- then that root may follow
abbrev pub Frozen : Type 0
Frozen =
    (shape : Shape) (flash : Flash) (extra : List Entry) (top : ℕ × Root) (found : Found) (m : Map) (first second : ℕ) → IsShape shape
    → IsUnder shape flash extra top found m → IsFrozen shape flash top found first second
    → IsNext shape flash extra top found (frozen_root top.1 found first second) (frozen found)
