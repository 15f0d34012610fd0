-- Cells as the pages of a flash.
use Rattle.std.proofs.Common.{◌≡◌, ℕ, zero, suc, ◌<◌, List, [], ◌∷◌, length, get_or, sym, ap, arith}
use Rattle.pk_base.specs.Page.{page_at}
use Rattle.pk_test_logs.specs.declared.cell.Cell.{Cell}
use Rattle.pk_test_logs.specs.Cells.{page_of_cell, flash_of_cells}

-- the page at the place of a cell is its own
pub page_here : (cells : List Cell) (i : ℕ) (c : Cell) → i < length cells → c ≡ get_or cells i c → page_at (flash_of_cells cells) i ≡ page_of_cell c
page_here [] i c inside is = absurd (omega (arith, inside))
page_here (x ∷ cells) zero c inside is = ap page_of_cell (sym is)
page_here (x ∷ cells) (suc i) c inside is = page_here cells i c (omega (arith, inside)) is
