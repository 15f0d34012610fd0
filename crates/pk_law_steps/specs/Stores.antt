-- What one more entry makes of the map: the statements.
use Rattle.std.specs.Prelude.{◌≡◌, ℕ, ◌-◌, ◌/◌, ◌≤◌, List, [], ◌∷◌, ◌++◌, length, true, Some, None, Ok}
use Rattle.std.{specs.FinMap.insert, specs.FinMap.remove, specs.FinMap.Entries.put}
use Rattle.pk_base.{specs.Key.Key, specs.Key.key_cmp, specs.Key.space_of, specs.Shape.Shape, specs.Shape.buffer, specs.Shape.limit, specs.Shape.data_blocks, specs.Page.Flash, specs.Page.page_at}
use Rattle.pk_base.{specs.Entry.Entry, specs.Entry.Place, specs.Firsts.firsts, specs.Map.Map}
use Rattle.pk_segfmt.specs.Value.{value_at}
use Rattle.pk_rootfmt.specs.Root.{Root, named}
use Rattle.pk_model.{specs.RootLimits.root_limits, specs.RootLimits.root_spaces, specs.Found.Found, specs.Values.fits, specs.Values.all_pages, specs.Values.KeepsWithin}
use Rattle.pk_model.specs.Laws.{AnyByRecursion, IsPageOf}
use Rattle.pk_law_steps.specs.Under.{IsUnder, IsValuePage, places}

-- the value of a further entry is at its place, its key is of a namespace of the drive, the buffer has room for it, and the values are well placed and within the
-- limits of their namespaces
abbrev pub Stores : Type 0
Stores =
    (shape : Shape) (flash : Flash) (pending : List Entry) (top : ℕ × Root) (found : Found) (m : Map) (key : Key) (place : Place) (value : List ℕ)
    → IsUnder shape flash pending top found m → space_of key ≤ root_spaces shape top.1 → value_at shape (page_at flash) key place ≡ Ok value
    → length (firsts (found.newest ++ (pending ++ (key, Some place) ∷ []))) ≤ buffer shape
    → fits shape (named top.1) (all_pages shape (put key_cmp key place (places found pending))) ≡ true
    → KeepsWithin shape (root_limits shape top.1) (put key_cmp key place (places found pending))
    → IsUnder shape flash (pending ++ (key, Some place) ∷ []) top found (insert m key value)

-- a further entry deletes its key
abbrev pub Deletes : Type 0
Deletes =
    (shape : Shape) (flash : Flash) (pending : List Entry) (top : ℕ × Root) (found : Found) (m : Map) (key : Key)
    → IsUnder shape flash pending top found m → space_of key ≤ root_spaces shape top.1
    → length (firsts (found.newest ++ (pending ++ (key, None) ∷ []))) ≤ buffer shape
    → IsUnder shape flash (pending ++ (key, None) ∷ []) top found (remove m key)

-- One value more is well placed: in no block that the root names, at pages of no other value, within the limit, and all values are in few blocks.
abbrev pub Fits : Type 0
Fits =
    (shape : Shape) (blocks used : List ℕ) (es : List (Key × Place)) (key : Key) (place : Place)
    → fits shape blocks (all_pages shape es) ≡ true
    → ((k : ℕ) → IsPageOf shape k place → AnyByRecursion (λ b. k / shape.block_pages ≡ b) blocks → ⊥)
    → ((k : ℕ) → IsPageOf shape k place → IsValuePage shape es k → ⊥)
    → length (all_pages shape (put key_cmp key place es)) ≤ limit shape
    → ((k : ℕ) → IsValuePage shape (put key_cmp key place es) k → AnyByRecursion (λ b. k / shape.block_pages ≡ b) used)
    → length used ≤ data_blocks shape - 1
    → fits shape blocks (all_pages shape (put key_cmp key place es)) ≡ true
