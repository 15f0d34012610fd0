-- How a pair is read, and by how many reads.
use Rattle.std.specs.Prelude.{◌≡◌, ◌⊎◌, ℕ, ◌+◌, ◌<◌, List, slice_index, Option, Some, None}
use Rattle.pk_base.{specs.Shape.Shape, specs.Page.Page, specs.Page.Flash, specs.Page.page_at, specs.Page.erased, specs.Page.whole, specs.Page.torn}
use Rattle.pk_nand.{specs.BoardState.BoardState, specs.Operations.after_read, specs.Operations.ReadFailed}

-- the blocks of an epoch are blocks of the flash
abbrev pub AllExist : Shape → List ℕ → Type 0
AllExist shape blocks = (n : ℕ) → n < 2 → slice_index blocks n < shape.blocks

-- a pair is read by one read if its first page is whole, and otherwise by two
abbrev pub reads_of_pair : Page → ℕ
reads_of_pair (whole bytes) = 1
reads_of_pair erased = 2
reads_of_pair torn = 2

-- the number of a page that is whole
abbrev pub whole_number : ℕ × Page → Option ℕ
whole_number (page, whole bytes) = Some page
whole_number (page, erased) = None
whole_number (page, torn) = None

-- the page is not whole
abbrev pub IsNotWhole : Page → Type 0
IsNotWhole page = (bytes : List ℕ) → page ≡ whole bytes → ⊥

-- a read of the first page failed, or one of the second, after one of a first page that is not whole
abbrev pub PairReadFailed : BoardState → BoardState → ℕ → Type 0
PairReadFailed old new page =
    ReadFailed old new page ⊎ (IsNotWhole (page_at old.pages page) × ReadFailed (after_read old) new (page + 1))
