-- A relocation in memory, over a board: what is known before each step, and what a step does.
use Rattle.std.specs.Prelude.{◌≡◌, ◌⊎◌, ℕ, suc, ◌+◌, ◌-◌, ◌*◌, ◌%◌, ◌<◌, ◌≤◌, ◌==◌, ◌&&◌, nat_lt, if◌then◌else◌, Bool, true, false, List, length, take, Option, Some, None, Result, Ok, Err}
use Rattle.pk_base.{specs.declared.sizes.TheConstants.MOST_PAGE_BYTES, specs.Shape.Shape, specs.Shape.IsShape, specs.Page.Flash, specs.Page.page_at, specs.Page.whole, specs.Page.torn as torn_page}
use Rattle.pk_base.specs.Mark.{Mark, program, erase, after}
use Rattle.pk_nand.{specs.BoardState.BoardState, specs.Calls.IsReady, specs.Calls.Rose, specs.Operations.InOrder, specs.declared.types.NandFault.NandFault}
use Rattle.pk_remap.{specs.declared.layout.TheConstants.MOST_SPARES, specs.declared.phase.Phase.Phase, specs.declared.relocation.Call.Call, specs.declared.relocation.Relocation.Relocation as InMemory}
use Rattle.pk_remap.specs.declared.phase.Phase.TheVariants.{EraseSpare, Read, Write, EraseTable, First, Second}
use Rattle.pk_remap.{specs.declared.relocation.Call.TheVariants.Program, specs.declared.relocation.Call.TheVariants.Erase, specs.Table.table_of, specs.Table.table_bytes, specs.Table.is_table}
use Rattle.pk_remap.{specs.Places.inner_shape, specs.Places.placed_page, specs.Through.through}
use Rattle.pk_remap.specs.Relocating.{Relocation, block, copies_of, fill_of, next_table, IsSpareFilled, IsSpareFull, IsTop, IsNextPair, IsTablePair}
use Rattle.pk_remap.specs.Stepping.{RelocationGoesOn, WentSafely, IsSource, IsTableBlock}

abbrev pub mark_of : Call → List ℕ → Mark
mark_of (Program page) bytes = program page bytes
mark_of (Erase b) bytes = erase b

abbrev pub is_program : Call → Bool
is_program (Program page) = true
is_program (Erase b) = false

abbrev pub relocation_of : InMemory → Relocation
relocation_of r = record {
  shape = r.shape;
  spares = r.spares;
  table = table_of r.number r.used r.serves;
  top = r.top;
  taken = r.taken;
  mark = mark_of r.call (take r.shape.page_bytes r.bytes.items);
}

-- how many pages of the block come before the call's
abbrev pub copies : InMemory → ℕ
copies r = copies_of r.shape (relocation_of r).mark

-- whether a page of the block is in memory
abbrev pub is_kept : InMemory → ℕ → Bool
is_kept r k = r.kept && (suc k == copies r)

-- the bytes for a page of the spare
abbrev pub bytes_for : InMemory → ℕ → List ℕ
bytes_for r k =
    if k == copies r then take r.shape.page_bytes r.bytes.items
    else if is_kept r k then take r.shape.page_bytes r.partner.items
    else take r.shape.page_bytes r.copy.items

-- the table is written to the pair after the newest table, or to the other table block, which is erased first
abbrev pub table_phase : Option ℕ → Phase
table_phase None = EraseTable
table_phase (Some pair) = First pair

-- the pair after this one, unless it is the last of its block
abbrev pub next_after : Shape → ℕ → Option ℕ
next_after shape page = if (page + 2) % shape.block_pages == 0 then None else Some (page + 2)

-- the table that was written to the pair of this page is the newest one
abbrev pub with_table : InMemory → ℕ → List ℕ → InMemory
with_table r page serves = record r { number = r.number + 1; used = r.taken + 1; serves = serves; top = page; taken = r.taken + 1; next = next_after r.shape page }

-- what is next after k pages of the spare are filled
abbrev pub phase_after : InMemory → ℕ → Phase
phase_after r k =
    if nat_lt k (copies r) then (if is_kept r k then Write k else Read k)
    else if is_program r.call && (k == copies r) then Write k
    else table_phase r.next

-- the first page of the pair has the next table, and the second page is Erased
pub record IsTableHalf (r : Relocation) (before flash : Flash) (at : ℕ) : Type 0 where
  pub pair : IsTablePair r flash at
  pub room : at % r.shape.block_pages + 1 < r.shape.block_pages
  pub full : IsSpareFull r before flash
  pub first : page_at flash at ≡ whole (table_bytes r.shape r.spares (next_table r))
  pub order : InOrder (inner_shape r.shape r.spares) flash (suc at)

-- what is known before each step
abbrev pub AtPhase : InMemory → Flash → Flash → Phase → Type 0
AtPhase r before flash EraseSpare = IsTop (relocation_of r) flash
AtPhase r before flash (Read k) = IsTop (relocation_of r) flash × IsSpareFilled (relocation_of r) before flash k × (k < copies r) × (is_kept r k ≡ false)
AtPhase r before flash (Write k) = IsTop (relocation_of r) flash × IsSpareFilled (relocation_of r) before flash k × (k < fill_of r.shape (relocation_of r).mark) × IsSource (relocation_of r) before k (bytes_for r k)
AtPhase r before flash EraseTable = IsTop (relocation_of r) flash × IsSpareFull (relocation_of r) before flash
AtPhase r before flash (First pair) = IsTop (relocation_of r) flash × IsNextPair r.shape r.spares r.top flash pair × IsSpareFull (relocation_of r) before flash
AtPhase r before flash (Second pair) = IsTableHalf (relocation_of r) before flash pair

-- the buffers have room for a page, and the list of blocks for all spares
pub record HasPageBuffersFor (used : ℕ) (serves partner bytes copy : List ℕ) : Type 0 where
  pub fits : used ≤ MOST_SPARES
  pub all : length serves ≡ MOST_SPARES
  pub kept_page : MOST_PAGE_BYTES ≤ length partner
  pub new_page : MOST_PAGE_BYTES ≤ length bytes
  pub read_page : MOST_PAGE_BYTES ≤ length copy

abbrev pub HasPageBuffers : InMemory → Type 0
HasPageBuffers r = HasPageBuffersFor r.used r.serves r.partner.items r.bytes.items r.copy.items

-- the pair after the newest table, if it is known, can be programmed
abbrev pub HasTurn : InMemory → Flash → Type 0
HasTurn r flash = (pair : ℕ) → r.next ≡ Some pair → IsNextPair r.shape r.spares r.top flash pair

pub record RelocationRuns (r : InMemory) (before : Flash) (board : BoardState) : Type 0 where
  pub goes_on : RelocationGoesOn (relocation_of r) before board
  pub phase_fits : AtPhase r before board.pages r.phase
  -- the first page of the call's pair has the bytes that were read before the call
  pub partner : (k : ℕ) → is_kept r k ≡ true → IsSource (relocation_of r) before k (take r.shape.page_bytes r.partner.items)
  pub turn : HasTurn r board.pages
  pub room : HasPageBuffers r

-- The newest table is in memory, and the board is ready: a call of the outer flash can be made.
pub record IsAtRest (r : InMemory) (board : BoardState) : Type 0 where
  pub ready : IsReady board (inner_shape r.shape r.spares)
  pub shape_is : IsShape r.shape
  pub few : r.spares ≤ MOST_SPARES
  pub grammar : is_table r.shape r.spares (relocation_of r).table ≡ true
  pub used : length (relocation_of r).table.serves ≤ r.taken
  pub taken : r.taken ≤ r.spares
  pub top : IsTop (relocation_of r) board.pages
  pub turn : HasTurn r board.pages
  pub room : HasPageBuffers r

-- The call of the outer flash is done: the next table is the newest, in both pages of its pair, and is in memory.
pub record IsRelocated (r : InMemory) (before : Flash) (r' : InMemory) (board : BoardState) : Type 0 where
  pub rests : IsAtRest r' board
  pub table_is : (relocation_of r').table ≡ next_table (relocation_of r)
  pub first : page_at board.pages r'.top ≡ whole (table_bytes r.shape r.spares (next_table (relocation_of r)))
  pub second : page_at board.pages (suc r'.top) ≡ whole (table_bytes r.shape r.spares (next_table (relocation_of r)))
  pub done : through r.shape r.spares board.pages ≡ Some (after r.shape (relocation_of r).mark before)

-- the relocation serves the same call, with at least as many spares taken
pub record SameCall (r r' : InMemory) : Type 0 where
  pub shape : r'.shape ≡ r.shape
  pub spares : r'.spares ≡ r.spares
  pub call : r'.call ≡ r.call
  pub bytes : r'.bytes ≡ r.bytes
  pub taken : r.taken ≤ r'.taken
  pub most : r'.taken ≤ r.spares
  pub room : HasPageBuffers r'

-- no read failed; programs and erases may have
pub record NoReadFailed (old new : BoardState) : Type 0 where
  pub reads : new.read_faults ≡ old.read_faults
  pub stops : (new.stop_faults ≡ old.stop_faults) ⊎ Rose old.stop_faults new.stop_faults

-- why a step may stop: a read failed; a program or an erase failed in a table block, or on the last spare; or the page that it read to copy is Torn
pub data RelocationStops (r : InMemory) (old : BoardState) (r' : InMemory) (new : BoardState) : Type 0 where
  reading : Rose old.read_faults new.read_faults → RelocationStops r old r' new
  in_table : Rose old.stop_faults new.stop_faults → (b : ℕ) → IsTableBlock r.shape r.spares b → new.failed_at ≡ Some b → RelocationStops r old r' new
  no_spare : Rose old.stop_faults new.stop_faults → r.spares ≤ r'.taken → RelocationStops r old r' new
  torn : (k : ℕ) → r.phase ≡ Read k → page_at old.pages (placed_page r.shape (relocation_of r).table (block (relocation_of r) * r.shape.block_pages + k)) ≡ torn_page → new.pages ≡ old.pages → RelocationStops r old r' new

-- the most steps with one spare, in blocks of n pages: its erase, a read and a program of each page, and three calls for the table
abbrev pub steps_of_spare : ℕ → ℕ
steps_of_spare n = 2 * n + 4

-- how far a phase is from the end
abbrev pub phase_rank : ℕ → Phase → ℕ
phase_rank n EraseSpare = steps_of_spare n
phase_rank n (Read k) = 2 * (n - k) + 3
phase_rank n (Write k) = 2 * (n - k) + 2
phase_rank n EraseTable = 3
phase_rank n (First pair) = 2
phase_rank n (Second pair) = 1

-- most steps that remain
abbrev pub relocation_steps_left : InMemory → ℕ
relocation_steps_left r = (r.spares - suc r.taken) * steps_of_spare r.shape.block_pages + phase_rank r.shape.block_pages r.phase

-- What a step does. Its one call may have failed in each case, so the board is at a cut of its mark.
abbrev pub StepOutcome : InMemory → Flash → BoardState → Result Bool NandFault → InMemory → BoardState → Type 0
StepOutcome r before old (Ok false) r' new =
    WentSafely (relocation_of r) before old new × RelocationRuns r' before new × (relocation_steps_left r' < relocation_steps_left r) × SameCall r r'
    × (relocation_of r' ≡ record (relocation_of r) { taken = r'.taken }) × NoReadFailed old new
StepOutcome r before old (Ok true) r' new = WentSafely (relocation_of r) before old new × IsRelocated r before r' new × SameCall r r'
StepOutcome r before old (Err e) r' new = WentSafely (relocation_of r) before old new × RelocationStops r old r' new × SameCall r r'

-- A step of a relocation, whatever the outer flash was before the call that it serves.
abbrev pub RelocationSteps : InMemory → BoardState → Result Bool NandFault → InMemory → BoardState → Type 0
RelocationSteps r old result r' new = (before : Flash) → RelocationRuns r before old → StepOutcome r before old result r' new
