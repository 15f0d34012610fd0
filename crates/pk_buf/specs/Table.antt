-- A write buffer as the list of its entries.
use Rattle.std.specs.Prelude.{ℕ, suc, cond, Bool, false, List, [], ◌∷◌, map, get_or, None, slice_get}
use Rattle.std.{specs.Ordering.is_lt, specs.Ordering.is_eq, specs.Option.option_map_or}
use Rattle.pk_base.{specs.Key.Key, specs.Key.key_cmp, specs.Entry.Entry, specs.Entry.key_of, specs.Shape.Shape, specs.Shape.buffer, specs.Seen.entry}
use Rattle.pk_buf.specs.declared.slot.Slot.{Slot}

-- how many entries there is room for, and the entries, rising by key
pub record Table : Type 0 where
  pub capacity : ℕ
  pub entries : List Entry

-- no entries, and room for those of a write buffer
abbrev pub no_entries : Shape → Table
no_entries shape = record { capacity = buffer shape; entries = [] }

-- the key of the entry is below this one
abbrev pub is_below : Key → Entry → Bool
is_below key e = is_lt (key_cmp (key_of e) key)

-- the entry has this key
abbrev pub has_key : Key → Entry → Bool
has_key key e = is_eq (key_cmp (key_of e) key)

-- how many entries are before the first key that is not below this one
abbrev pub place_of : Key → List Entry → ℕ
place_of key [] = 0
place_of key (e ∷ es) = cond (is_below key e) (suc (place_of key es)) 0

-- the entry at place i has the key
abbrev pub has_at : Key → List Entry → ℕ → Bool
has_at key es i = option_map_or (has_key key) (slice_get es i) false

-- ---- inside

-- the entry of a slot, of that with a number, and those of the slots with these numbers
abbrev pub content : Slot → Entry
content slot = entry slot.entry

abbrev pub numbered : List Slot → ℕ → Entry
numbered slots i = get_or (map content slots) i ([], None)

abbrev pub sorted : List Slot → List ℕ → List Entry
sorted slots order = map (numbered slots) order
