-- A call of the outer flash that a relocation serves, from its first step to its last.
use Rattle.std.specs.Prelude.{◌≡◌, ◌⊎◌, ℕ, zero, suc, max, ◌+◌, ◌-◌, ◌*◌, ◌%◌, ◌<◌, ◌≤◌, Bool, true, false, take, Some, None, Result, Ok, Err}
use Rattle.pk_base.{specs.Page.Flash, specs.Page.page_at, specs.Page.whole, specs.Page.torn as torn_page, specs.Mark.Mark, specs.Mark.after, specs.Shape.IsShape}
use Rattle.pk_nand.{specs.BoardState.BoardState, specs.Calls.Rose, specs.Calls.IsReady, specs.Operations.after_read, specs.Operations.ReadFailed, specs.Counts.after_reads, specs.Crash.Went}
use Rattle.pk_nand.specs.declared.types.NandFault.{NandFault}
use Rattle.pk_remap.{specs.declared.layout.TheConstants.MOST_SPARES, specs.Newest.newest_table, specs.declared.top.Top.Top, specs.declared.relocation.Relocation.Relocation as InMemory}
use Rattle.pk_remap.{specs.Places.inner_shape, specs.Places.placed_page, specs.Places.through_by, specs.Through.through, specs.Through.MayShow, specs.Through.IsMarkWithin, specs.Stepping.IsTableBlock}
use Rattle.pk_remap.{specs.Relocating.Relocation, specs.Relocating.block, specs.Relocating.copies_of, specs.Relocating.IsCall, specs.Counting.SearchFailed}
use Rattle.pk_remap.specs.Running.{relocation_of, RelocationRuns, HasPageBuffers, IsAtRest, SameCall}

-- n calls, of which each cut, and the flash after each, have P
abbrev pub PassesCount : (Flash → Type 0) → ℕ → BoardState → BoardState → Type 0
PassesCount P zero old new = new ≡ old
PassesCount P (suc n) old new = (mid : BoardState) × PassesCount P n old mid × Went mid new (λ flash _. P flash)

abbrev pub PassesCalls : (Flash → Type 0) → BoardState → BoardState → Type 0
PassesCalls P old new = (n : ℕ) × PassesCount P n old new

-- at each cut of its calls the outer flash is what the call that is served may leave
abbrev pub PassesSafely : InMemory → Flash → BoardState → BoardState → Type 0
PassesSafely r before old new = PassesCalls (MayShow r.shape r.spares before (relocation_of r).mark) old new

-- why a relocation may stop: a read failed; a program or an erase failed in a table block, or on the last spare; or a page to copy is Torn
pub data ServingStops (r : Relocation) (old : BoardState) (taken : ℕ) (new : BoardState) : Type 0 where
  read_failed : Rose old.read_faults new.read_faults → ServingStops r old taken new
  table_failed : Rose old.stop_faults new.stop_faults → (b : ℕ) → IsTableBlock r.shape r.spares b → new.failed_at ≡ Some b → ServingStops r old taken new
  spares_failed : Rose old.stop_faults new.stop_faults → r.spares ≤ taken → ServingStops r old taken new
  page_is_torn : (k : ℕ) → k < copies_of r.shape r.mark → page_at new.pages (placed_page r.shape r.table (block r * r.shape.block_pages + k)) ≡ torn_page → ServingStops r old taken new

-- What a relocation does with the call that it serves: it is done, or the relocation stops.
abbrev pub ServingOutcome : InMemory → Flash → BoardState → Result Unit NandFault → InMemory → BoardState → Type 0
ServingOutcome r before old (Ok u) r' new =
    PassesSafely r before old new × IsAtRest r' new × (through r.shape r.spares new.pages ≡ Some (after r.shape (relocation_of r).mark before)) × SameCall r r'
ServingOutcome r before old (Err e) r' new = PassesSafely r before old new × ServingStops (relocation_of r) old r'.taken new × SameCall r r'

-- the same, whatever the outer flash was before the call
abbrev pub RelocationServes : InMemory → BoardState → Result Unit NandFault → InMemory → BoardState → Type 0
RelocationServes r old result r' new = (before : Flash) → RelocationRuns r before old → ServingOutcome r before old result r' new

-- ---- calls of the outer flash

-- the relocation that serves a call
abbrev pub for_mark : InMemory → Mark → Relocation
for_mark r mark = record (relocation_of r) { mark = mark }

-- the outer flash, by the table in memory
abbrev pub outer_of : InMemory → Flash → Flash
outer_of r flash = through_by r.shape (relocation_of r).table (page_at flash)

-- the shape and the spares are the same, with at least as many spares taken
pub record SameSpares (r r' : InMemory) : Type 0 where
  pub shape : r'.shape ≡ r.shape
  pub spares : r'.spares ≡ r.spares
  pub taken : r.taken ≤ r'.taken
  pub most : r'.taken ≤ r.spares
  pub room : HasPageBuffers r'

-- the call of the outer flash can be made
pub record OuterCall (r : InMemory) (mark : Mark) (flash : Flash) : Type 0 where
  pub within : IsMarkWithin r.shape mark
  pub call : IsCall r.shape mark (outer_of r flash)

-- if the first page of the pair of a page is in memory, the outer flash has it
abbrev pub HasPartner : InMemory → ℕ → Flash → Type 0
HasPartner r page before = r.kept ≡ true → (1 ≤ page % r.shape.block_pages) × (page_at before (page - 1) ≡ whole (take r.shape.page_bytes r.partner.items))

-- The first page of the pair is in memory if this page is the second one and the first is Whole. At most one page was read.
pub record PartnerKept (r : InMemory) (page : ℕ) (old : BoardState) (r' : InMemory) (new : BoardState) : Type 0 where
  pub rests : IsAtRest r' new
  pub partner : HasPartner r' page (outer_of r old.pages)
  pub others : r' ≡ record r { kept = r'.kept; partner = r'.partner }
  pub board : (new ≡ old) ⊎ (new ≡ after_read old)

abbrev pub PartnerOutcome : InMemory → ℕ → BoardState → Result Unit NandFault → InMemory → BoardState → Type 0
PartnerOutcome r page old (Ok u) r' new = PartnerKept r page old r' new
PartnerOutcome r page old (Err e) r' new = ReadFailed old new (placed_page r.shape (relocation_of r).table (page - 1)) × SameSpares r r' × (r' ≡ record r { kept = r'.kept; partner = r'.partner })

-- What a program or an erase of the outer flash does: it is done, with the newest table in memory; or it failed, and this is why.
abbrev pub OuterOutcome : InMemory → Mark → BoardState → Result Unit NandFault → InMemory → BoardState → Type 0
OuterOutcome r mark old (Ok u) r' new =
    PassesCalls (MayShow r.shape r.spares (outer_of r old.pages) mark) old new × IsAtRest r' new
    × (through r.shape r.spares new.pages ≡ Some (after r.shape mark (outer_of r old.pages))) × SameSpares r r'
OuterOutcome r mark old (Err e) r' new =
    PassesCalls (MayShow r.shape r.spares (outer_of r old.pages) mark) old new × ServingStops (for_mark r mark) old r'.taken new × SameSpares r r'

-- ---- the search for the newest table

-- the board is ready, and the relocation in memory fits it, whichever its table is
pub record CanFind (r : InMemory) (board : BoardState) : Type 0 where
  pub ready : IsReady board (inner_shape r.shape r.spares)
  pub shape_is : IsShape r.shape
  pub few : r.spares ≤ MOST_SPARES
  pub taken : r.taken ≤ r.spares
  pub room : HasPageBuffers r

-- with the newest table that was found, whose spares are taken
abbrev pub found_top : InMemory → Top → InMemory
found_top r top = record r { number = top.number; used = top.used; top = top.page; next = None; taken = max r.taken top.used }

-- What the search does: the newest table is in memory, or there is none, or a read failed.
abbrev pub FindOutcome : InMemory → BoardState → Result Bool NandFault → InMemory → BoardState → Type 0
FindOutcome r old (Ok true) r' new = IsAtRest r' new × (new ≡ after_reads (2 * r.shape.block_pages) old) × SameSpares r r'
FindOutcome r old (Ok false) r' new = (newest_table r.shape r.spares (page_at old.pages) ≡ None) × (new ≡ after_reads (2 * r.shape.block_pages) old) × SameSpares r r'
FindOutcome r old (Err e) r' new = SearchFailed old new × SameSpares r r'
