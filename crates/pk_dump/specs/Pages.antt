-- Pages of a flash in memory.
use Rattle.std.specs.Prelude.{◌≡◌, ℕ, List, length, All}
use Rattle.pk_base.{specs.Shape.Shape, specs.Page.Page, specs.Page.erased, specs.Page.whole, specs.Page.torn}
use Rattle.pk_nand.{specs.declared.types.PageRead.PageRead, specs.declared.types.PageState.PageState, specs.Seen.state}
use Rattle.pk_nand.specs.declared.types.PageRead.TheVariants.{Erased, Whole, Torn}

-- if the page is whole it has the bytes of a page
abbrev pub IsFullPage : Shape → Page → Type 0
IsFullPage shape page = (bytes : List ℕ) → page ≡ whole bytes → length bytes ≡ shape.page_bytes

-- each page that is whole has the bytes of a page
abbrev pub AreFull : Shape → List PageState → Type 0
AreFull shape pages = All (λ page. IsFullPage shape (state page)) pages

-- the page that a read found, whose bytes are in the buffer if it is whole
abbrev pub read_as : PageRead → List ℕ → Page
read_as Erased bytes = erased
read_as Whole bytes = whole bytes
read_as Torn bytes = torn
