-- What a commit and a freeze make of what is under the root: the statements.
use Rattle.std.specs.Prelude.{◌≡◌, ◌⊎◌, ℕ, ◌+◌, ◌<◌, ◌≤◌, List, [], ◌∷◌, ◌++◌, length, true, ◌==◌, if◌then◌else◌, Some}
use Rattle.pk_base.{specs.Shape.Shape, specs.Shape.IsShape, specs.Shape.epoch_pages, specs.Shape.root_pages, specs.Entry.Entry, specs.Map.Map}
use Rattle.pk_base.specs.Page.{Flash, page_at, erased, whole, page_in, commit_page}
use Rattle.pk_rootfmt.{specs.Root.Root, specs.Root.is_root, specs.Newest.newest_root}
use Rattle.pk_nand.{specs.Cut.Cut, specs.Pairs.marks_of_pair, specs.Pairs.IsPairCut}
use Rattle.pk_model.{specs.Found.Found, specs.Laws.IsCommit, specs.Tree.Follows}
use Rattle.pk_law_steps.specs.Under.{IsUnder}

-- these entries after those of the newest epoch
abbrev pub committed : Found → List Entry → Found
committed found es = record found { newest = found.newest ++ es }

-- a commit that is cut leaves what was found, with the map without the entries, or has them in the newest epoch
abbrev pub Commits : Type 0
Commits =
    (shape : Shape) (flash cut : Flash) (top : ℕ × Root) (found : Found) (es : List Entry) (m0 m1 : Map) (index : ℕ) (bytes posted : List ℕ) → IsShape shape
    → IsUnder shape flash [] top found m0 → IsUnder shape flash es top found m1 → IsCommit shape flash top.1 es index bytes
    → Cut shape flash (marks_of_pair (commit_page shape top.1.newest index) bytes) cut posted
    → IsUnder shape cut [] top found m0 ⊎ IsUnder shape cut [] top (committed found es) m1

-- the same of each of its two programs by itself: the flash before the first one counts
abbrev pub CommitsPair : Type 0
CommitsPair =
    (shape : Shape) (flash cut : Flash) (top : ℕ × Root) (found : Found) (es : List Entry) (m0 m1 : Map) (index : ℕ) (bytes : List ℕ) → IsShape shape
    → IsUnder shape flash [] top found m0 → IsUnder shape flash es top found m1 → IsCommit shape flash top.1 es index bytes
    → IsPairCut (commit_page shape top.1.newest index) bytes flash cut
    → IsUnder shape cut [] top found m0 ⊎ IsUnder shape cut [] top (committed found es) m1

-- the root of a freeze: an empty epoch in these blocks, and the newest one as the older if it has entries
abbrev pub frozen_root : Root → Found → ℕ → ℕ → Root
frozen_root root found first second = record root {
  number = root.number + 1;
  epoch = root.epoch + 1;
  newest = first ∷ second ∷ [];
  older = if length found.newest == 0 then [] else root.newest;
}

abbrev pub frozen : Found → Found
frozen found = record found { newest = []; older = found.newest }

-- a freeze whose root is installed leaves the map, and is a step of the tree
abbrev pub FreezeLeavesMap : Type 0
FreezeLeavesMap =
    (shape : Shape) (flash new : Flash) (top : ℕ × Root) (page : ℕ) (found : Found) (m : Map) (first second : ℕ) → IsShape shape
    → IsUnder shape flash [] top found m → found.older ≡ []
    → is_root shape (frozen_root top.1 found first second) ≡ true
    → newest_root shape (page_at new) ≡ Some (page, frozen_root top.1 found first second)
    → ((k : ℕ) → root_pages shape ≤ k → page_at new k ≡ page_at flash k)
    → ((j : ℕ) → j < epoch_pages shape → page_at flash (page_in shape (first ∷ second ∷ []) j) ≡ erased)
    → IsUnder shape new [] (page, frozen_root top.1 found first second) (frozen found) m × Follows shape flash new

-- it has them once the first of the two programs was made, and after both
abbrev pub Committed : Type 0
Committed =
    (shape : Shape) (flash now : Flash) (top : ℕ × Root) (found : Found) (es : List Entry) (m0 m1 : Map) (index : ℕ) (bytes : List ℕ) → IsShape shape
    → IsUnder shape flash [] top found m0 → IsUnder shape flash es top found m1 → IsCommit shape flash top.1 es index bytes
    → IsPairCut (commit_page shape top.1.newest index) bytes flash now → page_at now (commit_page shape top.1.newest index) ≡ whole bytes
    → IsUnder shape now [] top (committed found es) m1
