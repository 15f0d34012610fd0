-- The newest table of a flash.
use Rattle.std.specs.Prelude.{◌≡◌, ◌≢◌, ◌⊎◌, ℕ, zero, suc, ◌+◌, ◌*◌, ◌<◌, ◌≤◌, nat_le, if◌then◌else◌, Option, Some, None}
use Rattle.pk_base.{specs.Shape.Shape, specs.Page.Page, specs.Page.erased, specs.Page.whole, specs.Page.torn}
use Rattle.pk_remap.specs.Table.{SpareTable, table_page}

-- the table of a page, if it is a table page
abbrev pub table_in : Shape → ℕ → Page → Option SpareTable
table_in shape spares (whole bytes) = table_page shape spares bytes
table_in shape spares erased = None
table_in shape spares torn = None

-- a table and its page, unless a later one has a greater number
abbrev pub newer_table : ℕ → Option SpareTable → Option (ℕ × SpareTable) → Option (ℕ × SpareTable)
newer_table page None later = later
newer_table page (Some table) None = Some (page, table)
newer_table page (Some table) (Some later) = if nat_le later.1.number table.number then Some (page, table) else Some later

-- the first page of the two table blocks, which are the last
abbrev pub first_table_page : Shape → ℕ → ℕ
first_table_page shape spares = (shape.blocks + spares) * shape.block_pages

-- a page of the table blocks
pub record IsTablePage (shape : Shape) (spares page : ℕ) : Type 0 where
  pub from : first_table_page shape spares ≤ page
  pub to : page < first_table_page shape spares + 2 * shape.block_pages

module _ (shape : Shape) (spares : ℕ) (at : ℕ → Page) where
  -- the newest table of n pages from page k on
  abbrev pub newest_from : ℕ → ℕ → Option (ℕ × SpareTable)
  newest_from k zero = None
  newest_from k (suc n) = newer_table k (table_in shape spares (at k)) (newest_from (suc k) n)

  -- the table with the greatest number in the table blocks, of equals the one of the lowest page, and its page
  unfoldable pub newest_table : Option (ℕ × SpareTable)
  newest_table = newest_from (first_table_page shape spares) (2 * shape.block_pages)

-- of two tables with their pages the first is the newer one
abbrev pub IsNewer : ℕ → SpareTable → ℕ → SpareTable → Type 0
IsNewer page table k other = (other.number < table.number) ⊎ ((other.number ≡ table.number) × (page ≤ k))

-- this is the newest table, in this page
pub record IsNewest (shape : Shape) (spares : ℕ) (at : ℕ → Page) (page : ℕ) (table : SpareTable) : Type 0 where
  pub there : IsTablePage shape spares page
  pub is : table_in shape spares (at page) ≡ Some table
  pub newest : (k : ℕ) → IsTablePage shape spares k → (other : SpareTable) → table_in shape spares (at k) ≡ Some other → IsNewer page table k other

-- this is the newest table of all pages but the two of this pair
pub record IsNewestBeside (shape : Shape) (spares : ℕ) (pair : ℕ) (at : ℕ → Page) (page : ℕ) (table : SpareTable) : Type 0 where
  pub there : IsTablePage shape spares page
  pub not_first : page ≢ pair
  pub not_second : page ≢ suc pair
  pub is : table_in shape spares (at page) ≡ Some table
  pub newest : (k : ℕ) → IsTablePage shape spares k → k ≢ pair → k ≢ suc pair → (other : SpareTable) → table_in shape spares (at k) ≡ Some other → IsNewer page table k other
