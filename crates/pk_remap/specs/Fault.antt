-- The first wrong field of a table page.
use Rattle.std.specs.Prelude.{ℕ, ◌+◌, ◌-◌, ◌*◌, List, [], ◌∷◌, drop, ◌&&◌, ◌==◌, nat_le, Option, None}
use Rattle.pk_base.{specs.Shape.Shape, specs.Fields.u16_at, specs.Fields.u32_at, specs.Fields.zeros}
use Rattle.pk_base.specs.FieldFaults.{u64_at, unlike, unless, first_fault}
use Rattle.pk_rootfmt.specs.Root.{u16s_at}
use Rattle.pk_remap.{specs.declared.layout.TheConstants.LIST_FROM, specs.Table.is_served}

-- PINKSPAR
abbrev pub table_magic : List ℕ
table_magic = 80 ∷ 73 ∷ 78 ∷ 75 ∷ 83 ∷ 80 ∷ 65 ∷ 82 ∷ []

-- the first wrong one of these block numbers, of which the first is at this byte
abbrev pub serves_fault : Shape → ℕ → List ℕ → Option ℕ
serves_fault shape at [] = None
serves_fault shape at (b ∷ bs) = first_fault (unless at (is_served shape b) ∷ serves_fault shape (at + 2) bs ∷ [])

-- the number of used spares
abbrev pub used : List ℕ → ℕ
used page = u16_at page 26

module _ (shape : Shape) (spares : ℕ) (page : List ℕ) where
  -- each table uses at least one spare more than the one before it, and the first may use none, so a number is at most one more than the used spares
  abbrev pub table_head_checks : List (Option ℕ)
  table_head_checks =
      unlike 0 table_magic page ∷ unless 8 (nat_le 1 (u64_at page 8)) ∷ unless 16 (u32_at page 16 == shape.page_bytes) ∷ unless 20 (u16_at page 20 == shape.block_pages)
      ∷ unless 22 (u16_at page 22 == shape.blocks) ∷ unless 24 (u16_at page 24 == spares) ∷ unless 26 (nat_le (used page) spares && nat_le (u64_at page 8) (used page + 1))
      ∷ unlike 28 (zeros 4) page ∷ []

  unfoldable pub table_head_fault : Option ℕ
  table_head_fault = first_fault table_head_checks

module _ (shape : Shape) (page : List ℕ) where
  -- the blocks that are served, and the zeros after them
  abbrev pub serves_checks : List (Option ℕ)
  serves_checks =
      serves_fault shape LIST_FROM (u16s_at (used page) (drop LIST_FROM page)) ∷ unlike (LIST_FROM + 2 * used page) (zeros (shape.page_bytes - (LIST_FROM + 2 * used page))) page ∷ []

  unfoldable pub serves_list_fault : Option ℕ
  serves_list_fault = first_fault serves_checks

-- the first byte of the first wrong field of a page
abbrev pub table_fault : Shape → ℕ → List ℕ → Option ℕ
table_fault shape spares page = first_fault (table_head_fault shape spares page ∷ serves_list_fault shape page ∷ [])
