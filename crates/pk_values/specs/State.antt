-- Where values go: the live values, and the block that is being filled.
use Rattle.std.specs.Prelude.{ℕ, ◌+◌, ◌-◌, ◌*◌, ◌≤◌, List, Bool, false, not, ◌&&◌, nat_le, slice_set, Option, Some, None}
use Rattle.pk_base.{specs.declared.sizes.TheConstants.MOST_BLOCK_PAGES, specs.declared.sizes.TheConstants.MOST_BLOCKS, specs.Shape.Shape, specs.Shape.data_blocks}
use Rattle.pk_plan.specs.declared.owner.Owner.TheVariants.{Values as for_values}
use Rattle.pk_pool.specs.Blocks.{Blocks, used_by}
use Rattle.pk_live.{specs.Values.Values, specs.OpenBlocks.closed_with}
pub use Rattle.pk_live.specs.declared.open_block.OpenBlock.{OpenBlock}

-- the live values with the blocks that are closed, and the block that takes the next value, if there is one
pub record ValuesState : Type 0 where
  pub live : Values
  pub open_block : Option OpenBlock

-- as after opening: no block takes values
abbrev pub with_none_open : Values → ValuesState
with_none_open live = record { live = live; open_block = None }

-- n Erased pages remain in the block
abbrev pub has_left : Shape → Option OpenBlock → ℕ → Bool
has_left shape None count = false
has_left shape (Some o) count = nat_le (o.used + count) shape.block_pages

abbrev pub fits_open : Shape → ValuesState → ℕ → Bool
fits_open shape d count = has_left shape d.open_block count

-- the next page of the block to be written
abbrev pub page_behind : Shape → Option OpenBlock → ℕ
page_behind shape None = 0
page_behind shape (Some o) = o.block * shape.block_pages + o.used

abbrev pub next_page : Shape → ValuesState → ℕ
next_page shape d = page_behind shape d.open_block

-- A value of n pages has no room in the open block, and one more block would be the last one, which is kept for reclaims and which a
-- running one holds.
abbrev pub needs_reclaim : Shape → ValuesState → Blocks → ℕ → Bool
needs_reclaim shape d pool count = not (fits_open shape d count) && nat_le (data_blocks shape - 1) (used_by for_values pool.states)

-- this block takes values from now on, in place of the one before
abbrev pub block_opened : ValuesState → ℕ → ValuesState
block_opened d b = record {
  live = record d.live { closed = closed_with d.open_block d.live.closed };
  open_block = Some (record { block = b; used = 0 });
}

-- n more pages of the block are written
abbrev pub more_used : Option OpenBlock → ℕ → Option OpenBlock
more_used None count = None
more_used (Some o) count = Some (record { block = o.block; used = o.used + count })

abbrev pub with_written : ValuesState → ℕ → ValuesState
with_written d count = record d { open_block = more_used d.open_block count }

-- the value at this page has this many pages, none if it is no longer live
abbrev pub with_head : ValuesState → ℕ → ℕ → ValuesState
with_head d page count = record d { live = record d.live { heads = slice_set d.live.heads page count } }

abbrev pub with_heads : ValuesState → List ℕ → ValuesState
with_heads d heads = record d { live = record d.live { heads = heads } }

-- its number and its written pages are within those of every flash
abbrev pub IsSmall : Option OpenBlock → Type 0
IsSmall None = Unit {0}
IsSmall (Some o) = (o.block ≤ MOST_BLOCKS) × (o.used ≤ MOST_BLOCK_PAGES)
