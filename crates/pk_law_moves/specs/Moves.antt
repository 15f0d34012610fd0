-- Values that are copied to other places, and the entries that name these: the statements.
use Rattle.std.specs.Prelude.{◌≡◌, ◌⊎◌, ℕ, ◌+◌, ◌-◌, ◌/◌, ◌<◌, ◌≤◌, List, [], ◌∷◌, ◌++◌, length, Some}
use Rattle.std.{specs.List.AllByRecursion, specs.FinMap.Entries.put, specs.FinMap.Entries.find}
use Rattle.pk_base.{specs.Key.Key, specs.Key.key_cmp, specs.Shape.Shape, specs.Shape.IsShape, specs.Shape.charge, specs.Shape.buffer, specs.Shape.data_blocks, specs.Firsts.firsts, specs.Map.Map}
use Rattle.pk_base.{specs.Page.Flash, specs.Page.page_at, specs.Page.whole, specs.Page.commit_page, specs.Entry.Entry, specs.Entry.Place, specs.Entry.put_entry}
use Rattle.pk_nand.{specs.Cut.Cut, specs.Pairs.marks_of_pair, specs.Pairs.IsPairCut, specs.Pairs.SameOutsidePair}
use Rattle.pk_rootfmt.specs.Root.{Root}
use Rattle.pk_model.{specs.Found.Found, specs.Laws.AnyByRecursion, specs.Laws.IsPageOf, specs.Laws.IsCommit}
use Rattle.pk_law_steps.{specs.Under.IsUnder, specs.Under.IsNamed, specs.Under.IsValuePage, specs.Under.places, specs.Roots.committed}

-- the entries that name these places
abbrev pub entries_of : List (Key × Place) → List Entry
entries_of [] = []
entries_of (m ∷ moves) = put_entry m.0 m.1 ∷ entries_of moves

-- each of these keys has its value at this place now
abbrev pub moved : List (Key × Place) → List (Key × Place) → List (Key × Place)
moved [] es = es
moved (m ∷ moves) es = moved moves (put key_cmp m.0 m.1 es)

-- the pages at the new place are those at the old one
pub record IsCopy (shape : Shape) (flash : Flash) (old new : Place) : Type 0 where
  pub same_len : new.len ≡ old.len
  pub same_pages : (i : ℕ) → i < charge shape old.len → page_at flash (new.page + i) ≡ page_at flash (old.page + i)

-- each of these keys has a value, and a copy of it is at this place
abbrev pub AreCopies : Shape → Flash → List (Key × Place) → List (Key × Place) → Type 0
AreCopies shape flash es moves = AllByRecursion (λ m. (old : Place) × (find key_cmp m.0 es ≡ Some old) × IsCopy shape flash old m.1) moves

-- no page belongs to two of these places
abbrev pub AreApart : Shape → List (Key × Place) → Type 0
AreApart shape [] = Unit {0}
AreApart shape (m ∷ moves) = ((k : ℕ) → IsPageOf shape k m.1 → IsValuePage shape moves k → ⊥) × AreApart shape moves

-- all pages of these values are in these blocks
abbrev pub LieIn : Shape → List (Key × Place) → List ℕ → Type 0
LieIn shape es blocks = (k : ℕ) → IsValuePage shape es k → AnyByRecursion (λ b. k / shape.block_pages ≡ b) blocks

-- Copies of values are apart from all values and from each other, in no block that the root names. With the copies in their
-- stead all values are in few blocks, and the newest buffer has room for the keys.
pub record CanMove (shape : Shape) (flash : Flash) (extra : List Entry) (root : Root) (found : Found) (moves : List (Key × Place)) (blocks : List ℕ) : Type 0 where
  pub copies : AreCopies shape flash (places found extra) moves
  pub unnamed : (k : ℕ) → IsValuePage shape moves k → IsNamed shape root k → ⊥
  pub free : (k : ℕ) → IsValuePage shape moves k → IsValuePage shape (places found extra) k → ⊥
  pub apart : AreApart shape moves
  pub among : LieIn shape (moved moves (places found extra)) blocks
  pub few : length blocks ≤ data_blocks shape - 1
  pub room : length (firsts (found.newest ++ (extra ++ entries_of moves))) ≤ buffer shape

-- the entries that name the copies leave the map
abbrev pub MovesLeaveMap : Type 0
MovesLeaveMap =
    (shape : Shape) (flash : Flash) (extra : List Entry) (top : ℕ × Root) (found : Found) (m : Map) (moves : List (Key × Place)) (blocks : List ℕ)
    → IsUnder shape flash extra top found m → CanMove shape flash extra top.1 found moves blocks
    → IsUnder shape flash (extra ++ entries_of moves) top found m

-- and the places are the new ones
abbrev pub PlacesMove : Type 0
PlacesMove = (found : Found) (extra : List Entry) (moves : List (Key × Place)) → places found (extra ++ entries_of moves) ≡ moved moves (places found extra)

-- a commit leaves the places
abbrev pub PlacesStay : Type 0
PlacesStay = (found : Found) (es : List Entry) → places (committed found es) [] ≡ places found es

-- One commit takes all of them: wherever its two programs are cut the flash holds the same map, with none of the entries or with all of them.
abbrev pub MovesCommit : Type 0
MovesCommit =
    (shape : Shape) (flash cut : Flash) (top : ℕ × Root) (found : Found) (m : Map) (moves : List (Key × Place)) (blocks : List ℕ) (index : ℕ) (bytes posted : List ℕ) → IsShape shape
    → IsUnder shape flash [] top found m → CanMove shape flash [] top.1 found moves blocks → IsCommit shape flash top.1 (entries_of moves) index bytes
    → Cut shape flash (marks_of_pair (commit_page shape top.1.newest index) bytes) cut posted
    → IsUnder shape cut [] top found m ⊎ IsUnder shape cut [] top (committed found (entries_of moves)) m

-- the same of each of the programs by itself: the flash before the first one counts
abbrev pub MovesPair : Type 0
MovesPair =
    (shape : Shape) (flash cut : Flash) (top : ℕ × Root) (found : Found) (m : Map) (moves : List (Key × Place)) (blocks : List ℕ) (index : ℕ) (bytes : List ℕ) → IsShape shape
    → IsUnder shape flash [] top found m → CanMove shape flash [] top.1 found moves blocks → IsCommit shape flash top.1 (entries_of moves) index bytes
    → IsPairCut (commit_page shape top.1.newest index) bytes flash cut
    → IsUnder shape cut [] top found m ⊎ IsUnder shape cut [] top (committed found (entries_of moves)) m

-- with all of them once the first program was made, and after both
abbrev pub MovesCommitted : Type 0
MovesCommitted =
    (shape : Shape) (flash now : Flash) (top : ℕ × Root) (found : Found) (m : Map) (moves : List (Key × Place)) (blocks : List ℕ) (index : ℕ) (bytes : List ℕ) → IsShape shape
    → IsUnder shape flash [] top found m → CanMove shape flash [] top.1 found moves blocks → IsCommit shape flash top.1 (entries_of moves) index bytes
    → IsPairCut (commit_page shape top.1.newest index) bytes flash now → page_at now (commit_page shape top.1.newest index) ≡ whole bytes
    → IsUnder shape now [] top (committed found (entries_of moves)) m

-- ---- the copy

-- a page of a block after the root blocks that the root does not name and in which no value that counts has a page, whatever became of its pair
abbrev pub Copies : Type 0
Copies =
    (shape : Shape) (flash cut : Flash) (extra : List Entry) (top : ℕ × Root) (found : Found) (m : Map) (at : ℕ) → IsShape shape → IsUnder shape flash extra top found m
    → 2 ≤ at / shape.block_pages → (IsNamed shape top.1 at → ⊥)
    → ((k : ℕ) → k / shape.block_pages ≡ at / shape.block_pages → IsValuePage shape (places found extra) k → ⊥)
    → SameOutsidePair shape at flash cut → IsUnder shape cut extra top found m
