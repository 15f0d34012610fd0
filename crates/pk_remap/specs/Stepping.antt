-- What the steps of a relocation do, call by call: each cut of the one call, and what is known after it.
use Rattle.std.specs.Prelude.{◌≡◌, ◌≢◌, ◌⊎◌, ℕ, suc, ◌+◌, ◌*◌, ◌/◌, ◌<◌, ◌≤◌, List, length, Some}
use Rattle.pk_base.{specs.Shape.Shape, specs.Page.Flash, specs.Page.page_at, specs.Page.erased, specs.Page.whole, specs.Page.IsPage, specs.Mark.after}
use Rattle.pk_nand.{specs.BoardState.BoardState, specs.Calls.IsReady, specs.Calls.Rose, specs.Calls.after_program, specs.Calls.ProgramFailed, specs.Crash.Reached, specs.Crash.Went}
use Rattle.pk_nand.specs.Operations.{InOrder, after_read, after_erase, ReadFailed, EraseFailed}
use Rattle.pk_remap.{specs.Table.table_bytes, specs.Places.inner_shape, specs.Places.placed_page, specs.Newest.IsNewest, specs.Through.through, specs.Through.MayShow}
use Rattle.pk_remap.specs.Relocating.{Relocation, block, copies_of, fill_of, spare_block, spare_page, next_table, IsSpareFilled, IsSpareFull, IsRelocating, IsTop, SameTables, IsNextPair, IsTablePair}

-- the same with the next spare
abbrev pub with_next_spare : Relocation → Relocation
with_next_spare r = record r { taken = r.taken + 1 }

-- One call of the inner flash was made, a read, a program or an erase: the board is what this call leaves, done or failed.
pub data OneCall (old new : BoardState) : Type 0 where
  one_read : (at : ℕ) → (new ≡ after_read old) ⊎ ReadFailed old new at → OneCall old new
  one_program : (at : ℕ) (bytes : List ℕ) → (new ≡ after_program old at bytes) ⊎ ProgramFailed old new at bytes → OneCall old new
  one_erase : (block : ℕ) → (new ≡ after_erase old block) ⊎ EraseFailed old new block → OneCall old new

-- at every cut the outer flash is what the call that is served may leave
abbrev pub ReachedSafely : Relocation → Flash → BoardState → BoardState → Type 0
ReachedSafely r before old new = Reached old new (λ flash _. MayShow r.shape r.spares before r.mark flash)

abbrev pub WentSafely : Relocation → Flash → BoardState → BoardState → Type 0
WentSafely r before old new = Went old new (λ flash _. MayShow r.shape r.spares before r.mark flash)

-- the board is ready, and the relocation can go on over it
pub record RelocationGoesOn (r : Relocation) (before : Flash) (board : BoardState) : Type 0 where
  pub ready : IsReady board (inner_shape r.shape r.spares)
  pub serving : IsRelocating r before board.pages

-- The spare was erased: none of its pages is filled.
pub record SpareErased (r : Relocation) (before : Flash) (old new : BoardState) : Type 0 where
  pub cuts : ReachedSafely r before old new
  pub goes_on : RelocationGoesOn r before new
  pub top : IsTop r new.pages
  pub filled : IsSpareFilled r before new.pages 0
  pub tables : SameTables r old.pages new.pages

-- A page of the spare was programmed.
pub record PageWritten (r : Relocation) (before : Flash) (k : ℕ) (old new : BoardState) : Type 0 where
  pub cuts : ReachedSafely r before old new
  pub goes_on : RelocationGoesOn r before new
  pub top : IsTop r new.pages
  pub filled : IsSpareFilled r before new.pages (suc k)
  pub tables : SameTables r old.pages new.pages

-- A call on the spare failed: the next spare may be taken, if there is one.
pub record SpareFailed (r : Relocation) (before : Flash) (old new : BoardState) : Type 0 where
  pub cuts : WentSafely r before old new
  pub ready : IsReady new (inner_shape r.shape r.spares)
  pub goes_on : r.taken + 1 < r.spares → RelocationGoesOn (with_next_spare r) before new
  pub top : IsTop (with_next_spare r) new.pages
  pub reads : new.read_faults ≡ old.read_faults
  pub stop : Rose old.stop_faults new.stop_faults
  pub tables : SameTables r old.pages new.pages

-- The other table block was erased: its first pair is next.
pub record TableErased (r : Relocation) (before : Flash) (other : ℕ) (old new : BoardState) : Type 0 where
  pub cuts : ReachedSafely r before old new
  pub goes_on : RelocationGoesOn r before new
  pub top : IsTop r new.pages
  pub full : IsSpareFull r before new.pages
  pub next : IsNextPair r.shape r.spares r.top new.pages (other * r.shape.block_pages)

-- The next table was programmed in the first page of the pair.
pub record FirstWritten (r : Relocation) (before : Flash) (pair : ℕ) (old new : BoardState) : Type 0 where
  pub cuts : ReachedSafely r before old new
  pub goes_on : RelocationGoesOn r before new
  pub full : IsSpareFull r before new.pages
  pub is_pair : IsTablePair r new.pages pair
  pub first : page_at new.pages pair ≡ whole (table_bytes r.shape r.spares (next_table r))

-- It was programmed in the second page: the call of the outer flash is done.
pub record SecondWritten (r : Relocation) (before : Flash) (pair : ℕ) (old new : BoardState) : Type 0 where
  pub cuts : ReachedSafely r before old new
  pub ready : IsReady new (inner_shape r.shape r.spares)
  pub newest : IsNewest r.shape r.spares (page_at new.pages) pair (next_table r)
  pub done : through r.shape r.spares new.pages ≡ Some (after r.shape r.mark before)

-- ---- as laws

-- a table block
pub record IsTableBlock (shape : Shape) (spares b : ℕ) : Type 0 where
  pub from : shape.blocks + spares ≤ b
  pub to : b < shape.blocks + spares + 2

-- of the two table blocks the one without the newest table
pub record IsOtherTable (r : Relocation) (other : ℕ) : Type 0 where
  pub from : r.shape.blocks + r.spares ≤ other
  pub to : other < r.shape.blocks + r.spares + 2
  pub beside : r.top / r.shape.block_pages ≢ other

abbrev pub ErasesSpare : Type 0
ErasesSpare = (r : Relocation) (before : Flash) (old new : BoardState) → RelocationGoesOn r before old → IsTop r old.pages → new ≡ after_erase old (spare_block r) → SpareErased r before old new

abbrev pub FailsToEraseSpare : Type 0
FailsToEraseSpare = (r : Relocation) (before : Flash) (old new : BoardState) → RelocationGoesOn r before old → IsTop r old.pages → EraseFailed old new (spare_block r) → SpareFailed r before old new

-- once the call is done, the page at this place of the block has these bytes
abbrev pub IsSource : Relocation → Flash → ℕ → List ℕ → Type 0
IsSource r before k bytes = page_at (after r.shape r.mark before) (block r * r.shape.block_pages + k) ≡ whole bytes

-- a page that is read in the former inner block is the one to copy
abbrev pub ReadsSource : Type 0
ReadsSource =
    (r : Relocation) (before flash : Flash) (k : ℕ) (bytes : List ℕ) → IsRelocating r before flash → k < copies_of r.shape r.mark
    → page_at flash (placed_page r.shape r.table (block r * r.shape.block_pages + k)) ≡ whole bytes → IsSource r before k bytes

abbrev pub WritesInOrder : Type 0
WritesInOrder =
    (r : Relocation) (before flash : Flash) (k : ℕ) → IsRelocating r before flash → k ≤ copies_of r.shape r.mark → IsSpareFilled r before flash k
    → (spare_page r k < length flash) × InOrder (inner_shape r.shape r.spares) flash (spare_page r k)

abbrev pub WritesSpare : Type 0
WritesSpare =
    (r : Relocation) (before : Flash) (k : ℕ) (bytes : List ℕ) (old new : BoardState) → RelocationGoesOn r before old → IsTop r old.pages → k < r.shape.block_pages → IsSpareFilled r before old.pages k
    → IsSource r before k bytes → new ≡ after_program old (spare_page r k) bytes → PageWritten r before k old new

abbrev pub FailsToWriteSpare : Type 0
FailsToWriteSpare =
    (r : Relocation) (before : Flash) (k : ℕ) (bytes : List ℕ) (old new : BoardState) → RelocationGoesOn r before old → IsTop r old.pages → k < r.shape.block_pages
    → IsSource r before k bytes → ProgramFailed old new (spare_page r k) bytes → SpareFailed r before old new

-- a spare whose pages are filled is the block
abbrev pub Fills : Type 0
Fills = (r : Relocation) (before flash : Flash) → IsRelocating r before flash → IsSpareFilled r before flash (fill_of r.shape r.mark) → IsSpareFull r before flash

abbrev pub ErasesTable : Type 0
ErasesTable =
    (r : Relocation) (before : Flash) (other : ℕ) (old new : BoardState) → RelocationGoesOn r before old → IsTop r old.pages → IsSpareFull r before old.pages → IsOtherTable r other
    → new ≡ after_erase old other → TableErased r before other old new

abbrev pub FailsToEraseTable : Type 0
FailsToEraseTable =
    (r : Relocation) (before : Flash) (other : ℕ) (old new : BoardState) → RelocationGoesOn r before old → IsTop r old.pages → IsOtherTable r other → EraseFailed old new other → WentSafely r before old new

abbrev pub WritesFirst : Type 0
WritesFirst =
    (r : Relocation) (before : Flash) (pair : ℕ) (old new : BoardState) → RelocationGoesOn r before old → IsPage r.shape (table_bytes r.shape r.spares (next_table r)) → IsTablePair r old.pages pair → IsSpareFull r before old.pages → page_at old.pages pair ≡ erased
    → page_at old.pages (suc pair) ≡ erased → new ≡ after_program old pair (table_bytes r.shape r.spares (next_table r)) → FirstWritten r before pair old new

abbrev pub FailsToWriteFirst : Type 0
FailsToWriteFirst =
    (r : Relocation) (before : Flash) (pair : ℕ) (old new : BoardState) → RelocationGoesOn r before old → IsPage r.shape (table_bytes r.shape r.spares (next_table r)) → IsTablePair r old.pages pair → IsSpareFull r before old.pages → page_at old.pages pair ≡ erased
    → page_at old.pages (suc pair) ≡ erased → ProgramFailed old new pair (table_bytes r.shape r.spares (next_table r)) → WentSafely r before old new

abbrev pub WritesSecond : Type 0
WritesSecond =
    (r : Relocation) (before : Flash) (pair : ℕ) (old new : BoardState) → RelocationGoesOn r before old → IsPage r.shape (table_bytes r.shape r.spares (next_table r)) → IsTablePair r old.pages pair → IsSpareFull r before old.pages
    → page_at old.pages pair ≡ whole (table_bytes r.shape r.spares (next_table r)) → page_at old.pages (suc pair) ≡ erased
    → new ≡ after_program old (suc pair) (table_bytes r.shape r.spares (next_table r)) → SecondWritten r before pair old new

abbrev pub FailsToWriteSecond : Type 0
FailsToWriteSecond =
    (r : Relocation) (before : Flash) (pair : ℕ) (old new : BoardState) → RelocationGoesOn r before old → IsPage r.shape (table_bytes r.shape r.spares (next_table r)) → IsTablePair r old.pages pair → IsSpareFull r before old.pages
    → page_at old.pages pair ≡ whole (table_bytes r.shape r.spares (next_table r)) → page_at old.pages (suc pair) ≡ erased
    → ProgramFailed old new (suc pair) (table_bytes r.shape r.spares (next_table r)) → WentSafely r before old new
