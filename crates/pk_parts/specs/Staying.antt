-- What of a drive is unchanged by a step inside a command, apart from its map.
use Rattle.std.specs.Prelude.{◌≡◌, ◌≢◌, ◌⊎◌, ℕ, ◌+◌, ◌/◌, ◌≤◌, true, false, Some}
use Rattle.std.specs.FinMap.Entries.{find}
use Rattle.pk_base.{specs.Key.Key, specs.Key.key_cmp, specs.Entry.Place}
use Rattle.pk_values.specs.State.{fits_open}
use Rattle.pk_parts.specs.Parts.{Parts, counts_of, block_if_open}

-- An epoch that the drive began stays one that it began, and so is one that follows another.
pub record StaysFresh (before after : Parts) : Type 0 where
  pub stays : before.log.epoch.takes_more ≡ true → after.log.epoch.takes_more ≡ true
  pub begun : (after.log.root.epoch ≡ before.log.root.epoch) ⊎ (after.log.epoch.takes_more ≡ true)

-- As many blocks are in use, and the same one takes the next value.
pub record SameUse (before after : Parts) : Type 0 where
  pub used : (counts_of after).blocks ≡ (counts_of before).blocks
  pub open_same : block_if_open after.values.open_block ≡ block_if_open before.values.open_block

-- The open block had no room for n pages, and another one takes the next values.
pub record OpensOne (before after : Parts) (count : ℕ) : Type 0 where
  pub no_room : fits_open before.log.shape before.values count ≡ false
  pub used : (counts_of after).blocks ≡ (counts_of before).blocks + 1
  pub other : block_if_open after.values.open_block ≢ block_if_open before.values.open_block

-- a step that places no value
pub record Stays (before after : Parts) : Type 0 where
  pub fresh : StaysFresh before after
  pub blocks : SameUse before after

-- The open block had no room for n pages, and reclaims made it: no more blocks are in use.
pub record MakesRoom (before after : Parts) (count : ℕ) : Type 0 where
  pub no_room : fits_open before.log.shape before.values count ≡ false
  pub no_more : (counts_of after).blocks ≤ (counts_of before).blocks

-- a step that may place a value of n pages
pub record StaysOrOpens (before after : Parts) (count : ℕ) : Type 0 where
  pub fresh : StaysFresh before after
  pub blocks : SameUse before after ⊎ (OpensOne before after count ⊎ MakesRoom before after count)

-- a background step: no more blocks are in use
pub record StaysOrFrees (before after : Parts) : Type 0 where
  pub fresh : StaysFresh before after
  pub no_more : (counts_of after).blocks ≤ (counts_of before).blocks

-- The entry of a key that has a value is in the active buffer, and the value in the open block.
pub record IsNoted (d : Parts) (key : Key) : Type 0 where
  pub place : Place
  pub found : find key_cmp key d.log.active.entries ≡ Some (Some place)
  pub in_open : block_if_open d.values.open_block ≡ Some (place.page / d.log.shape.block_pages)
