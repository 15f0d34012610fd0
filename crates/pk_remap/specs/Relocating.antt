-- A relocation: the call of the outer flash that it serves, the spare that it fills, and what is known while it goes on.
use Rattle.std.specs.Prelude.{◌≡◌, ◌≢◌, ℕ, suc, ◌+◌, ◌-◌, ◌*◌, ◌/◌, ◌%◌, ◌<◌, ◌≤◌, [], length, true, ⊤}
use Rattle.pk_base.{specs.Shape.Shape, specs.Shape.IsShape, specs.Page.Flash, specs.Page.page_at, specs.Page.erased, specs.Page.IsPage, specs.Page.IsFlash}
use Rattle.pk_base.specs.Mark.{Mark, program, erase, post, after}
use Rattle.pk_nand.{specs.Cut.Interrupted, specs.Operations.InOrder}
use Rattle.pk_remap.{specs.declared.layout.TheConstants.MOST_SPARES, specs.Table.SpareTable, specs.Table.is_table, specs.Places.inner_shape, specs.Places.through_by, specs.Places.with_one_more}
use Rattle.pk_remap.{specs.Newest.IsTablePage, specs.Newest.IsNewest, specs.Newest.IsNewestBeside, specs.Through.IsMarkWithin}

pub record Relocation : Type 0 where
  pub shape : Shape
  pub spares : ℕ
  -- the newest table and its page
  pub table : SpareTable
  pub top : ℕ
  -- the spare that is filled
  pub taken : ℕ
  -- the call of the outer flash whose inner call failed
  pub mark : Mark

-- the block of the call, and how many of its pages come before the call's
abbrev pub block_of : Shape → Mark → ℕ
block_of shape (program at bytes) = at / shape.block_pages
block_of shape (erase block) = block
block_of shape (post bytes) = 0

abbrev pub copies_of : Shape → Mark → ℕ
copies_of shape (program at bytes) = at % shape.block_pages
copies_of shape (erase block) = 0
copies_of shape (post bytes) = 0

-- how many of its pages come before those that remain Erased
abbrev pub fill_of : Shape → Mark → ℕ
fill_of shape (program at bytes) = suc (at % shape.block_pages)
fill_of shape (erase block) = 0
fill_of shape (post bytes) = 0

module _ (r : Relocation) where
  abbrev pub block : ℕ
  block = block_of r.shape r.mark

  abbrev pub spare_block : ℕ
  spare_block = r.shape.blocks + r.taken

  -- a page of the spare
  abbrev pub spare_page : ℕ → ℕ
  spare_page i = spare_block * r.shape.block_pages + i

  -- the table that is written
  abbrev pub next_table : SpareTable
  next_table = with_one_more r.table (r.taken - length r.table.serves) block

  -- a page of the block once the call is done
  abbrev pub done_page : Flash → ℕ → ℕ
  done_page before i = block * r.shape.block_pages + i

-- the first pages of the spare are those that the block has once the call is done, and the others are Erased
pub record IsSpareFilled (r : Relocation) (before flash : Flash) (count : ℕ) : Type 0 where
  pub copied : (i : ℕ) → i < count → page_at flash (spare_page r i) ≡ page_at (after r.shape r.mark before) (block r * r.shape.block_pages + i)
  pub rest : (i : ℕ) → count ≤ i → i < r.shape.block_pages → page_at flash (spare_page r i) ≡ erased

-- the spare has the pages that the block has once the call is done
abbrev pub IsSpareFull : Relocation → Flash → Flash → Type 0
IsSpareFull r before flash =
    (i : ℕ) → i < r.shape.block_pages → page_at flash (spare_page r i) ≡ page_at (after r.shape r.mark before) (block r * r.shape.block_pages + i)

-- the call of the outer flash was in order
abbrev pub IsCall : Shape → Mark → Flash → Type 0
IsCall shape (program at bytes) before = InOrder shape before at × IsPage shape bytes
IsCall shape (erase block) before = ⊤
IsCall shape (post bytes) before = ⊥

-- what is known all the time: `before` is the outer flash before the call
pub record IsRelocating (r : Relocation) (before flash : Flash) : Type 0 where
  pub shape_is : IsShape r.shape
  pub few : r.spares ≤ MOST_SPARES
  pub whole_above : IsFlash r.shape before
  pub within : IsMarkWithin r.shape r.mark
  pub call : IsCall r.shape r.mark before
  pub grammar : is_table r.shape r.spares r.table ≡ true
  pub used : length r.table.serves ≤ r.taken
  pub left : r.taken < r.spares
  pub whole_below : IsFlash (inner_shape r.shape r.spares) flash
  -- by the former table the outer flash is what the call may leave if it is interrupted
  pub above : Interrupted r.shape r.mark before (through_by r.shape r.table (page_at flash)) []

abbrev pub IsTop : Relocation → Flash → Type 0
IsTop r flash = IsNewest r.shape r.spares (page_at flash) r.top r.table

-- no page of the table blocks differs
abbrev pub SameTables : Relocation → Flash → Flash → Type 0
SameTables r old new = (k : ℕ) → IsTablePage r.shape r.spares k → page_at new k ≡ page_at old k

-- the pair of this first page can be programmed, beside the newest table: its pages are the first Erased ones of their table block
pub record IsNextPair (shape : Shape) (spares top : ℕ) (flash : Flash) (pair : ℕ) : Type 0 where
  pub is_table : IsTablePage shape spares pair
  pub even : pair % shape.block_pages % 2 ≡ 0
  pub room : pair % shape.block_pages + 1 < shape.block_pages
  pub not_first : top ≢ pair
  pub not_second : top ≢ suc pair
  pub order : InOrder (inner_shape shape spares) flash pair

-- the pair is next: the former table is the newest of all other pages, and its pages are in a table block
pub record IsTablePair (r : Relocation) (flash : Flash) (pair : ℕ) : Type 0 where
  pub beside : IsNewestBeside r.shape r.spares pair (page_at flash) r.top r.table
  pub first : IsTablePage r.shape r.spares pair
  pub second : IsTablePage r.shape r.spares (suc pair)
  pub even : pair % r.shape.block_pages % 2 ≡ 0
