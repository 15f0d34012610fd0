-- How a slot is found: from the home of its key, and in the order of keys.
use Rattle.std.specs.Prelude.{◌≡◌, ℕ, ◌<◌, ◌^◌, List, get_or, length}
use Rattle.pk_homes.{specs.Hash.hash_of, specs.Homes.HasHomes}
use Rattle.pk_buf.{specs.declared.slot.Slot.Slot, specs.Table.numbered}

-- the hash of the key of the slot with a number
abbrev pub slot_hash : List Slot → ℕ → ℕ
slot_hash slots i = hash_of (numbered slots i).0

-- the table has each slot at the home of its key
pub record HasSlots (slots : List Slot) (table : List ℕ) : Type 0 where
  pub some : 0 < length table
  pub few : length table < 2 ^ 16
  pub homes : HasHomes (slot_hash slots) (length slots) table

-- the slot has its number in the order
pub record IsNumbered (order : List ℕ) (i : ℕ) : Type 0 where
  pub place : ℕ
  pub less : place < length order
  pub here : get_or order place 0 ≡ i

-- each slot has
abbrev pub AllNumbered : List ℕ → ℕ → Type 0
AllNumbered order n = (i : ℕ) → i < n → IsNumbered order i
