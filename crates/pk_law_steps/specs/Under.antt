-- What is under the newest root of a flash, and the map that it makes with entries that are not yet there.
use Rattle.std.specs.Prelude.{◌≡◌, ℕ, ◌/◌, List, Some, Ok}
use Rattle.pk_base.{specs.Shape.Shape, specs.Page.Flash, specs.Page.page_at, specs.Entry.Entry, specs.Entry.Place, specs.Key.Key, specs.Firsts.firsts, specs.Map.Map}
use Rattle.pk_rootfmt.{specs.Root.Root, specs.Root.named, specs.Newest.newest_root}
use Rattle.pk_model.{specs.Found.Found, specs.Found.found_under, specs.Found.entries_in_order, specs.Values.placed, specs.Reading.map_under, specs.Laws.AnyByRecursion, specs.Laws.IsPageOf}

-- the newest root and its page, the lists found under it, and the map that they make with the extra entries
pub record IsUnder (shape : Shape) (flash : Flash) (extra : List Entry) (top : ℕ × Root) (found : Found) (m : Map) : Type 0 where
  pub is_top : newest_root shape (page_at flash) ≡ Some top
  pub is_found : found_under shape (page_at flash) top.1 ≡ Ok found
  pub is_map : map_under shape (page_at flash) top.1 found extra ≡ Ok m

-- the entries that count, rising by key
abbrev pub counting : Found → List Entry → List Entry
counting found extra = firsts (entries_in_order found extra)

-- the places of the keys that exist, rising by key
abbrev pub places : Found → List Entry → List (Key × Place)
places found extra = placed (counting found extra)

-- the page is in a block that the root names
abbrev pub IsNamed : Shape → Root → ℕ → Type 0
IsNamed shape root k = AnyByRecursion (λ b. k / shape.block_pages ≡ b) (named root)

-- the page belongs to one of these values
abbrev pub IsValuePage : Shape → List (Key × Place) → ℕ → Type 0
IsValuePage shape es k = AnyByRecursion (λ e. IsPageOf shape k e.1) es
