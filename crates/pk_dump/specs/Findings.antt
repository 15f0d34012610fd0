-- What is found on a flash, before it is printed.
use Rattle.std.specs.Prelude.{◌≡◌, None, Some, MatchOption}
use Rattle.pk_base.{specs.Shape.Shape, specs.Page.Flash, specs.Page.page_at}
use Rattle.pk_rootfmt.specs.Newest.{newest_root}
use Rattle.pk_nand.specs.Seen.{states}
use Rattle.pk_dump.{specs.Readings.IsReadingOf, specs.declared.finding.Finding.Finding}

-- Its pages, the newest root with its page, and how reading it ends.
pub record IsFindingOf (shape : Shape) (flash : Flash) (found : Finding) : Type 0 where
  pub shape_is : found.root.shape ≡ shape
  pub pages_are : states found.pages.items ≡ flash
  pub newest_is : MatchOption found.newest (newest_root shape (page_at flash) ≡ None) (λ page. newest_root shape (page_at flash) ≡ Some (page, found.root.root))
  pub reading_is : IsReadingOf shape flash found.reading
