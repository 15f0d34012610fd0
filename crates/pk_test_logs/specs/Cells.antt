-- What the pages in memory are.
use Rattle.std.specs.Prelude.{ℕ, List, map}
use Rattle.pk_base.{specs.Fields.padded, specs.Page.Page, specs.Page.Flash, specs.Page.erased, specs.Page.whole, specs.Page.torn}
use Rattle.pk_test_logs.specs.declared.cell.TheConstants.{PAGE}
use Rattle.pk_test_logs.specs.declared.cell.Cell.{Cell}
use Rattle.pk_test_logs.specs.declared.cell.Cell.TheVariants.{Erased, Torn, Whole}

-- a page of the flash; of a Whole one zeros follow its front
abbrev pub page_of_cell : Cell → Page
page_of_cell Erased = erased
page_of_cell Torn = torn
page_of_cell (Whole front) = whole (padded PAGE front.bytes.items)

abbrev pub flash_of_cells : List Cell → Flash
flash_of_cells cells = map page_of_cell cells
