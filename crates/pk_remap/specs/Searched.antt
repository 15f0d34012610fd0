-- A search through table pages from the lowest on: the newest table so far.
use Rattle.std.specs.Prelude.{ℕ, ◌≤◌, ⊤, List, nat_lt, if◌then◌else◌, Option, Some, None}
use Rattle.pk_base.specs.Shape.{Shape}
use Rattle.pk_nand.specs.declared.types.PageRead.{PageRead}
use Rattle.pk_nand.specs.declared.types.PageRead.TheVariants.{Erased, Whole, Torn}
use Rattle.pk_remap.{specs.declared.top.Top.Top, specs.Table.SpareTable, specs.Table.table_of, specs.Table.table_page}

-- the table in memory, if one was found
abbrev pub table_found : Option Top → List ℕ → Option (ℕ × SpareTable)
table_found None serves = None
table_found (Some top) serves = Some (top.page, table_of top.number top.used serves)

-- the table in memory uses at most this many spares
abbrev pub UsesAtMost : ℕ → Option Top → Type 0
UsesAtMost spares None = ⊤
UsesAtMost spares (Some top) = top.used ≤ spares

-- the one with the greater number, of equals the first
abbrev pub newer_at : Option (ℕ × SpareTable) → ℕ → Option SpareTable → Option (ℕ × SpareTable)
newer_at best page None = best
newer_at None page (Some table) = Some (page, table)
newer_at (Some top) page (Some table) = if nat_lt top.1.number table.number then Some (page, table) else Some top

-- the table in a page that was read
abbrev pub table_read : Shape → ℕ → PageRead → List ℕ → Option SpareTable
table_read shape spares Erased bytes = None
table_read shape spares Whole bytes = table_page shape spares bytes
table_read shape spares Torn bytes = None
