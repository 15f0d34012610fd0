-- What the calls of a relocation do besides: only the flash differs, and spares are taken only for faults and for the block that moved.
use Rattle.std.specs.Prelude.{◌≡◌, ◌≢◌, ◌⊎◌, ℕ, ◌+◌, ◌≤◌, Bool, true, false, length, None, Result, Ok, Err}
use Rattle.pk_base.specs.Page.{Flash, page_at}
use Rattle.pk_nand.{specs.BoardState.BoardState, specs.Calls.IsReady, specs.Calls.Rose, specs.Calls.last_count, specs.Effects.OnlyFlash, specs.Effects.OnlyReading}
use Rattle.pk_nand.specs.declared.types.NandFault.{NandFault}
use Rattle.pk_remap.{specs.declared.relocation.Relocation.Relocation as InMemory, specs.Table.SpareTable, specs.Newest.newest_table, specs.Newest.IsNewest, specs.Places.inner_shape}

-- At most this many more spares are taken than programs and erases failed, unless their count is at its last value.
pub record SparesCounted (more : ℕ) (r : InMemory) (old : BoardState) (r' : InMemory) (new : BoardState) : Type 0 where
  pub rest : OnlyFlash old new
  pub stops : (new.stop_faults ≡ old.stop_faults) ⊎ Rose old.stop_faults new.stop_faults
  pub taken : (r'.taken + old.stop_faults ≤ r.taken + new.stop_faults + more) ⊎ (last_count ≤ new.stop_faults)

-- the newest table uses only spares that are taken
abbrev pub UsesOnlyTaken : InMemory → Flash → Type 0
UsesOnlyTaken r flash = (page : ℕ) (table : SpareTable) → IsNewest r.shape r.spares (page_at flash) page table → length table.serves ≤ r.taken

-- the board is ready, and has a table, which uses only spares that are taken
pub record HasTable (r : InMemory) (board : BoardState) : Type 0 where
  pub ready : IsReady board (inner_shape r.shape r.spares)
  pub some : newest_table r.shape r.spares (page_at board.pages) ≢ None
  pub used : UsesOnlyTaken r board.pages

-- after a step
abbrev pub StepCounts : InMemory → BoardState → Result Bool NandFault → InMemory → BoardState → Type 0
StepCounts r old (Ok false) r' new = SparesCounted 0 r old r' new
StepCounts r old (Ok true) r' new = SparesCounted 1 r old r' new
StepCounts r old (Err e) r' new = SparesCounted 0 r old r' new × HasTable r' new

-- after the steps of a relocation
abbrev pub ServeCounts : InMemory → BoardState → Result Unit NandFault → InMemory → BoardState → Type 0
ServeCounts r old (Ok u) r' new = SparesCounted 1 r old r' new
ServeCounts r old (Err e) r' new = SparesCounted 0 r old r' new × HasTable r' new

-- after a program or an erase of the outer flash
pub record OuterFailed (r : InMemory) (old : BoardState) (r' : InMemory) (new : BoardState) : Type 0 where
  pub counts : SparesCounted 0 r old r' new
  pub table : HasTable r' new
  pub faults : Rose old.read_faults new.read_faults ⊎ Rose old.stop_faults new.stop_faults

abbrev pub OuterCounts : InMemory → BoardState → Result Unit NandFault → InMemory → BoardState → Type 0
OuterCounts r old (Ok u) r' new = SparesCounted 0 r old r' new
OuterCounts r old (Err e) r' new = OuterFailed r old r' new

-- a read of the search for the newest table failed
pub record SearchFailed (old new : BoardState) : Type 0 where
  pub flash : Rose old.flash_faults new.flash_faults
  pub read : Rose old.read_faults new.read_faults
  pub rest : OnlyReading old new
