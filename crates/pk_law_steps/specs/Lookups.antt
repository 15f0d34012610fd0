-- What the entries that count say of the map: the statements.
use Rattle.std.specs.Prelude.{◌≡◌, ℕ, List, ◌++◌, length, map, reverse, Option, Some, None, Ok, T}
use Rattle.std.{specs.List.flat_map, specs.FinMap.get, specs.FinMap.len, specs.FinMap.keys, specs.FinMap.Entries.find, specs.FinMap.Entries.is_sorted}
use Rattle.pk_base.{specs.Choices.or_else, specs.Key.Key, specs.Key.key_cmp, specs.Shape.Shape, specs.Shape.IsShape, specs.Page.Flash, specs.Page.IsFlash, specs.Page.page_at, specs.Firsts.firsts}
use Rattle.pk_base.{specs.Entry.Entry, specs.Entry.Place, specs.Map.Map, specs.Map.live}
use Rattle.pk_segfmt.specs.Value.{value_at}
use Rattle.pk_rootfmt.specs.Root.{Root}
use Rattle.pk_model.{specs.Found.Found, specs.Found.entries_in_order, specs.Values.all_pages}
use Rattle.pk_law_steps.specs.Under.{IsUnder, places}

-- what a map has if the entry that counts says so: nothing if there is none or the key is deleted, otherwise the value at the place
abbrev pub IsValueOf : Shape → Flash → Key → Option (Option Place) → Option (List ℕ) → Type 0
IsValueOf shape flash key None value = value ≡ None
IsValueOf shape flash key (Some None) value = value ≡ None
IsValueOf shape flash key (Some (Some place)) value = (v : List ℕ) × (value_at shape (page_at flash) key place ≡ Ok v) × (value ≡ Some v)

abbrev pub LookupFinds : Type 0
LookupFinds =
    (shape : Shape) (flash : Flash) (pending : List Entry) (top : ℕ × Root) (found : Found) (m : Map) (key : Key) → IsUnder shape flash pending top found m
    → IsValueOf shape flash key (find key_cmp key (entries_in_order found pending)) (get m key)

-- the entry that counts is the one of the active buffer, or of the frozen one, or of the runs in their order
abbrev pub FoundIn : Type 0
FoundIn =
    (found : Found) (pending : List Entry) (key : Key)
    → find key_cmp key (entries_in_order found pending)
    ≡ or_else (find key_cmp key (firsts (reverse (found.newest ++ pending)))) (or_else (find key_cmp key (firsts (reverse found.older))) (find key_cmp key (flat_map (λ es. es) found.runs)))

-- a map has as many live pages as its values, and the keys that have a place
pub record Counted (shape : Shape) (es : List (Key × Place)) (m : Map) : Type 0 where
  pub live_is : live shape m ≡ length (all_pages shape es)
  pub len_is : len m ≡ length es
  pub keys_are : keys m ≡ map (λ e. e.0) es
  pub rising : T (is_sorted key_cmp es)

abbrev pub Counts : Type 0
Counts =
    (shape : Shape) (flash : Flash) (pending : List Entry) (top : ℕ × Root) (found : Found) (m : Map) → IsShape shape → IsFlash shape flash
    → IsUnder shape flash pending top found m → Counted shape (places found pending) m
