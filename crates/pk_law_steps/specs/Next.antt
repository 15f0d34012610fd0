-- A root that may follow the newest one: the same map is under it. Statements on its install.
use Rattle.std.specs.Prelude.{◌≡◌, ◌⊎◌, ℕ, ◌≤◌, List, ◌++◌, length, true, Some, Ok}
use Rattle.std.specs.List.{AllByRecursion}
use Rattle.pk_base.{specs.Shape.Shape, specs.Shape.IsShape, specs.Shape.buffer, specs.Shape.root_pages, specs.Page.Flash, specs.Page.page_at, specs.Page.SameBehind, specs.Entry.Entry, specs.Map.Map}
use Rattle.pk_base.{specs.EntryChecks.IsEntry, specs.Firsts.firsts}
use Rattle.pk_rootfmt.{specs.Root.Root, specs.Root.is_root, specs.Newest.newest_root}
use Rattle.pk_model.{specs.Found.Found, specs.Found.found_under, specs.Tree.Tree, specs.Tree.TreeFreezes, specs.Tree.Merges, specs.Tree.Follows}
use Rattle.pk_law_steps.specs.Under.{IsUnder, IsNamed, IsValuePage, places}

-- a root and what is found under it
abbrev pub tree_of : Root → Found → Tree
tree_of root found = record { root = root; found = found }

-- What is found under this root, though it is not installed yet: the same keys at the same places, none in a block that it names. It is the next step of the tree.
pub record IsNext (shape : Shape) (flash : Flash) (extra : List Entry) (top : ℕ × Root) (found : Found) (root : Root) (then_found : Found) : Type 0 where
  pub grammar : is_root shape root ≡ true
  pub is_found : found_under shape (page_at flash) root ≡ Ok then_found
  pub room : length (firsts (then_found.newest ++ extra)) ≤ buffer shape
  pub same_places : places then_found extra ≡ places found extra
  pub outside : (k : ℕ) → IsValuePage shape (places found extra) k → IsNamed shape root k → ⊥
  pub step : TreeFreezes (tree_of top.1 found) (tree_of root then_found) ⊎ Merges shape (tree_of top.1 found) (tree_of root then_found)

-- on a flash on which it is the newest root and no page after the root blocks differs, the same map is there, one step further
abbrev pub Installed : Type 0
Installed =
    (shape : Shape) (flash new : Flash) (extra : List Entry) (top : ℕ × Root) (page : ℕ) (found : Found) (root : Root) (then_found : Found) (m : Map)
    → IsShape shape → AllByRecursion (IsEntry shape) extra
    → IsUnder shape flash extra top found m → IsNext shape flash extra top found root then_found
    → newest_root shape (page_at new) ≡ Some (page, root) → SameBehind shape flash new
    → IsUnder shape new extra (page, root) then_found m × Follows shape flash new

-- at every cut of its install the map is under the former root or under this one
abbrev pub Installs : Type 0
Installs =
    (shape : Shape) (flash cut : Flash) (extra : List Entry) (top : ℕ × Root) (page : ℕ) (found : Found) (root : Root) (then_found : Found) (m : Map)
    → IsShape shape → AllByRecursion (IsEntry shape) extra
    → IsUnder shape flash extra top found m → IsNext shape flash extra top found root then_found
    → (newest_root shape (page_at cut) ≡ newest_root shape (page_at flash)) ⊎ (newest_root shape (page_at cut) ≡ Some (page, root)) → SameBehind shape flash cut
    → IsUnder shape cut extra top found m ⊎ IsUnder shape cut extra (page, root) then_found m
