-- How far the bytes of a page in an image file may differ from zero.
use Rattle.std.specs.Prelude.{◌≡◌, ◌++◌, ℕ, List, length, map, take, drop}
use Rattle.pk_file.{specs.declared.slot.Slot.Slot, specs.declared.slot.Slot.TheVariants.Erased, specs.declared.slot.Slot.TheVariants.Whole, specs.declared.slot.Slot.TheVariants.Torn}
use Rattle.pk_file.specs.Trims.{ZerosFrom}

-- the bytes at the place of this page that may differ from zero
abbrev pub extent_of : Slot → ℕ
extent_of (Erased extent) = extent
extent_of (Whole kept) = length kept.front.items
extent_of (Torn extent) = extent

abbrev pub extents_of : List Slot → List ℕ
extents_of slots = map extent_of slots

-- bytes after a prefix was written over them
abbrev pub overwritten : List ℕ → List ℕ → List ℕ
overwritten part old = part ++ drop (length part) old

-- However many of these bytes are written over others that are zeros from one extent on, the outcome is zeros from the other one on.
abbrev pub StaysWithin : ℕ → List ℕ → ℕ → Type 0
StaysWithin before bytes after =
    (n : ℕ) (old : List ℕ) → length old ≡ length bytes → ZerosFrom before old → ZerosFrom after (overwritten (take n bytes) old)
