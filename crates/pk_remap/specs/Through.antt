-- The outer flash, by the pages of the inner flash.
use Rattle.std.specs.Prelude.{◌≡◌, ◌<◌, ◌*◌, ℕ, [], Option, Some, option_map}
use Rattle.pk_base.{specs.Shape.Shape, specs.Page.Flash, specs.Page.page_at, specs.Mark.Mark, specs.Mark.program, specs.Mark.erase, specs.Mark.post}
use Rattle.pk_nand.specs.Cut.{Interrupted}
use Rattle.pk_remap.{specs.Table.SpareTable, specs.Places.place, specs.Places.placed_page, specs.Places.through_by, specs.Newest.newest_table}

-- the outer flash, by the newest table of the inner flash; none if there is no table
abbrev pub through : Shape → ℕ → Flash → Option Flash
through shape spares flash = option_map (λ top. through_by shape top.1 (page_at flash)) (newest_table shape spares (page_at flash))

-- The outer flash is as it was before the mark, or what the mark may leave of that if it is interrupted, or what it leaves if it is done.
pub record MayShow (shape : Shape) (spares : ℕ) (before : Flash) (mark : Mark) (flash : Flash) : Type 0 where
  pub above : Flash
  pub is_above : through shape spares flash ≡ Some above
  pub left : Interrupted shape mark before above []

-- a mark of the outer flash, as it is made on the inner flash
abbrev pub mark_below : Shape → SpareTable → Mark → Mark
mark_below shape table (program at bytes) = program (placed_page shape table at) bytes
mark_below shape table (erase block) = erase (place shape table block)
mark_below shape table (post bytes) = post bytes

-- the page or the block of the mark exists
abbrev pub IsMarkWithin : Shape → Mark → Type 0
IsMarkWithin shape (program at bytes) = at < shape.block_pages * shape.blocks
IsMarkWithin shape (erase block) = block < shape.blocks
IsMarkWithin shape (post bytes) = ⊥
