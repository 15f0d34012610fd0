-- The namespaces of a drive: they are those of its newest root.
use Rattle.std.proofs.Common.{◌≡◌, ℕ, ◌≤◌, ap, T, List, [], ◌∷◌, ◌++◌, Some, le→leb}
use Rattle.pk_base.{specs.Key.space_of, specs.Shape.Shape, specs.Entry.Entry, specs.Page.Flash, specs.Page.page_at, proofs.Logic.left_part, proofs.Logic.right_part, proofs.Logic.both}
use Rattle.pk_space.specs.Entries.{in_spaces}
use Rattle.pk_rootfmt.{specs.Root.Root, specs.Root.limits_of, specs.Newest.newest_root, specs.Newest.limits_if}
use Rattle.pk_model.{specs.Spaces.limits_at, specs.RootLimits.root_limits}

-- of a flash
pub limits_under : (shape : Shape) (flash : Flash) (top : ℕ × Root) → newest_root shape (page_at flash) ≡ Some top → limits_at shape flash ≡ root_limits shape top.1
unfolding limits_at root_limits
limits_under shape flash top is = ap (limits_if shape) is

-- of a root that keeps the limits of another one
pub limits_alike : (shape : Shape) (old new : Root) → new.limits ≡ old.limits → root_limits shape new ≡ root_limits shape old
unfolding root_limits
limits_alike shape old new same = ap (limits_of shape) same

-- one entry more
pub in_spaces_last : (spaces : ℕ) (es : List Entry) (e : Entry) → T (in_spaces spaces es) → space_of e.0 ≤ spaces → T (in_spaces spaces (es ++ e ∷ []))
in_spaces_last spaces [] e all last = both _ _ (le→leb (space_of e.0) spaces last) tt
in_spaces_last spaces (x ∷ es) e all last = both _ _ (left_part _ (in_spaces spaces es) all) (in_spaces_last spaces es e (right_part _ (in_spaces spaces es) all) last)
