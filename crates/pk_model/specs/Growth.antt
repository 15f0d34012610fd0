-- How the tree of lists grows along a trail.
use Rattle.std.specs.Prelude.{◌≡◌, ◌⊎◌, ℕ, List, [], ◌∷◌, ⊤}
use Rattle.pk_base.{specs.Shape.Shape, specs.Page.Flash, specs.Page.page_at, specs.Mark.Mark, specs.Mark.after}
use Rattle.pk_rootfmt.specs.Newest.{newest_root}
use Rattle.pk_nand.{specs.BoardState.BoardState, specs.Crash.ReachedBy, specs.Crash.WentBy, specs.Cut.Interrupted}
use Rattle.pk_model.{specs.Spaces.limits_at, specs.Tree.Follows}

-- The newest root is the same, or a freeze or a merge made the next one.
abbrev pub Grows : Shape → Flash → Flash → Type 0
Grows shape old new = (newest_root shape (page_at new) ≡ newest_root shape (page_at old)) ⊎ Follows shape old new

-- wherever the mark is cut, the limits of the namespaces are the same
abbrev pub KeepsLimits : Shape → Flash → Mark → Type 0
KeepsLimits shape start mark = (flash : Flash) (posted : List ℕ) → Interrupted shape mark start flash posted → limits_at shape flash ≡ limits_at shape start

-- so from each state of a trail to the next
abbrev pub GrowsAlong : Shape → Flash → List Mark → Type 0
GrowsAlong shape start [] = ⊤
GrowsAlong shape start (mark ∷ marks) = (Grows shape start (after shape mark start) × KeepsLimits shape start mark) × GrowsAlong shape (after shape mark start) marks

-- by marks of which every cut has P, and along which the tree grows
abbrev pub Reaches : Shape → BoardState → BoardState → (Flash → List ℕ → Type 0) → Type 0
Reaches shape old new P = (marks : List Mark) × ReachedBy marks old new P × GrowsAlong shape old.pages marks

-- the same of a call that may have failed
abbrev pub Goes : Shape → BoardState → BoardState → (Flash → List ℕ → Type 0) → Type 0
Goes shape old new P = (marks : List Mark) × WentBy marks old new P × GrowsAlong shape old.pages marks
