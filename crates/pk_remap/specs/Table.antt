-- Table pages: which block each used spare serves.
use Rattle.std.specs.Prelude.{ℕ, ◌+◌, List, ◌++◌, length, take, drop, flat_map, Bool, ◌&&◌, ◌||◌, ◌==◌, nat_lt, nat_le, if◌then◌else◌, Option, Some, None, codes, bytes_eq}
use Rattle.std.specs.List.{list_all}
use Rattle.pk_base.{specs.Shape.Shape, specs.Fields.u16_at, specs.Fields.u16, specs.Fields.u32, specs.Fields.u64, specs.Fields.padded, specs.FieldFaults.u64_at}
use Rattle.pk_rootfmt.specs.Root.{u16s_at}
use Rattle.pk_remap.specs.declared.layout.TheConstants.{FAILED, LIST_FROM}

pub record SpareTable : Type 0 where
  pub number : ℕ
  -- for each used spare in order: the block that it serves, or the mark of a failed one
  pub serves : List ℕ

-- a spare serves a block of the outer flash, or it failed
abbrev pub is_served : Shape → ℕ → Bool
is_served shape block = nat_lt block shape.blocks || block == FAILED

abbrev pub is_table : Shape → ℕ → SpareTable → Bool
is_table shape spares table =
    nat_le 1 table.number && nat_le table.number (length table.serves + 1) && nat_le (length table.serves) spares && list_all (is_served shape) table.serves

-- the page of a table, by the shape of the outer flash and the number of spares
abbrev pub table_bytes : Shape → ℕ → SpareTable → List ℕ
table_bytes shape spares table = padded shape.page_bytes (
    codes "PINKSPAR" ++ u64 table.number ++ u32 shape.page_bytes ++ u16 shape.block_pages ++ u16 shape.blocks ++ u16 spares
    ++ u16 (length table.serves) ++ u32 0 ++ flat_map u16 table.serves)

-- what the fields of a page say, whether or not it is a table page
abbrev pub table_at : List ℕ → SpareTable
table_at bytes = record { number = u64_at bytes 8; serves = u16s_at (u16_at bytes 26) (drop LIST_FROM bytes) }

-- the table of a table page
unfoldable pub table_page : Shape → ℕ → List ℕ → Option SpareTable
table_page shape spares bytes =
    let table = table_at bytes in
    if is_table shape spares table && bytes_eq bytes (table_bytes shape spares table) then Some table else None

-- a table in memory: its number, how many spares are used, and the blocks that they serve, with room for all spares
abbrev pub table_of : ℕ → ℕ → List ℕ → SpareTable
table_of number used serves = record { number = number; serves = take used serves }
