-- What a flash with spare blocks does by calls of its inner flash, and why it refuses a call.
use Rattle.std.specs.Prelude.{◌≡◌, ◌⊎◌, ℕ, ◌+◌, ◌-◌, ◌*◌, ◌<◌, ◌≤◌, List, length, Option, Some, None, Result, Ok, Err, IsOk, IsErr, OnOk, OnErr, ⊤}
use Rattle.pk_base.{specs.Shape.Shape, specs.Shape.checked, specs.Page.page_at, specs.Page.torn, specs.Mark.Mark, specs.Mark.after}
use Rattle.pk_nand.{specs.BoardState.BoardState, specs.Calls.Rose, specs.Calls.last_count, specs.Effects.OnlyFlash, specs.declared.types.LoadFault.LoadFault, specs.declared.types.NandFault.NandFault}
use Rattle.pk_nand.specs.declared.types.LoadFault.TheVariants.{Fault, BadImage, Memory}
use Rattle.pk_nand.{specs.Operations.after_post, specs.Operations.PostFailed, specs.declared.types.HostFault.HostFault}
use Rattle.pk_remap.{specs.declared.relocation.Relocation.Relocation as InMemory, specs.declared.mark_log.MarkLog.MarkLog, specs.Logged.HasLogRoom, specs.Table.SpareTable, specs.Stepping.IsTableBlock}
use Rattle.pk_remap.{specs.Newest.newest_table, specs.Newest.IsNewest, specs.Places.inner_shape, specs.Places.placed_page, specs.Through.through, specs.Through.MayShow, specs.Serving.PassesCalls}
use Rattle.pk_remap.{specs.Relocating.block_of, specs.Relocating.copies_of, specs.Remapped.outer_pages, specs.Remapped.without_spares}

-- ---- spares

-- By at most as many spares fewer are left as programs and erases of the inner flash failed, unless their count is at its last value.
abbrev pub SparesFallBy : ℕ → BoardState → ℕ → BoardState → Type 0
SparesFallBy left old left' new = (left + old.stop_faults ≤ left' + new.stop_faults) ⊎ (last_count ≤ new.stop_faults)

-- ---- load and make

-- why the image is bad: the inner one is; its shape has no room for an outer flash; or it has no table of this shape and these spares
pub data BadImageCause (spares at : ℕ) (inner : BoardState) : Type 0 where
  inner_is_bad : inner.bad ≡ Some at → BadImageCause spares at inner
  no_outer_shape : (shape : Shape) → inner.shape ≡ Some shape → IsErr (checked (without_spares shape spares)) → at ≡ 32 → BadImageCause spares at inner
  no_table : (shape : Shape) → inner.shape ≡ Some (inner_shape shape spares) → newest_table shape spares (page_at inner.pages) ≡ None → at ≡ 32 → BadImageCause spares at inner

-- the image has a newest table, and the spares that it doesn't use are left
pub record ImageOpened (spares : ℕ) (shape : Shape) (left : ℕ) (inner : BoardState) : Type 0 where
  pub shape_is : inner.shape ≡ Some (inner_shape shape spares)
  pub top : ℕ × SpareTable
  pub newest : newest_table shape spares (page_at inner.pages) ≡ Some top
  pub others : left + length top.1.serves ≡ spares

-- a load, by what the inner flash did
abbrev pub LoadCause : ℕ → BoardState → Result (Option Shape) LoadFault → ℕ → BoardState → Type 0
LoadCause spares old (Ok None) left new = new.shape ≡ None
LoadCause spares old (Ok (Some shape)) left new = ImageOpened spares shape left new
LoadCause spares old (Err Fault) left new = Rose old.flash_faults new.flash_faults
LoadCause spares old (Err (BadImage at)) left new = BadImageCause spares at new
LoadCause spares old (Err Memory) left new = ⊤

-- why a make failed: the inner shape is allowed, and the inner flash failed; or it is not allowed, and nothing was done
pub data MakeFaultCause (spares : ℕ) (shape : Shape) (old new : BoardState) : Type 0 where
  inner_fault : IsOk (checked (inner_shape shape spares)) → Rose old.flash_faults new.flash_faults → MakeFaultCause spares shape old new
  not_allowed : IsErr (checked (inner_shape shape spares)) → new ≡ old → MakeFaultCause spares shape old new

-- a make, by what the inner flash did
abbrev pub MakeCause : ℕ → Shape → BoardState → Result Unit LoadFault → ℕ → BoardState → Type 0
MakeCause spares shape old (Ok u) left new = ImageOpened spares shape left new × (left ≡ spares) × IsOk (checked (inner_shape shape spares))
MakeCause spares shape old (Err Fault) left new = MakeFaultCause spares shape old new
MakeCause spares shape old (Err (BadImage at)) left new = ⊥
MakeCause spares shape old (Err Memory) left new = IsOk (checked (inner_shape shape spares))

-- ---- programs and erases

-- Why a program or an erase failed: a read failed; or a program or an erase failed, and that was in a table block, no spare block remains, or a
-- page to copy is Torn.
pub data StopCause (shape : Shape) (spares : ℕ) (mark : Mark) (old : BoardState) (left : ℕ) (new : BoardState) : Type 0 where
  read_fault : Rose old.read_faults new.read_faults → StopCause shape spares mark old left new
  table_fault : Rose old.stop_faults new.stop_faults → (b : ℕ) → IsTableBlock shape spares b → new.failed_at ≡ Some b → StopCause shape spares mark old left new
  no_spare_left : Rose old.stop_faults new.stop_faults → left ≡ 0 → StopCause shape spares mark old left new
  torn_page : Rose old.stop_faults new.stop_faults → (k page : ℕ) (table : SpareTable) → k < copies_of shape mark → IsNewest shape spares (page_at old.pages) page table
      → page_at new.pages (placed_page shape table (block_of shape mark * shape.block_pages + k)) ≡ torn → StopCause shape spares mark old left new

-- the room of the log would be passed, and nothing was done
pub record IsRefused (log : MarkLog) (len : ℕ) (old new : BoardState) : Type 0 where
  pub no_room : HasLogRoom log len → ⊥
  pub same : new ≡ old

-- A post: the inner board did it, or it failed there; or the room of the log would be passed, and nothing was done.
abbrev pub PostsInner : MarkLog → List ℕ → BoardState → Result Unit HostFault → BoardState → Type 0
PostsInner log bytes old (Ok u) new = new ≡ after_post old bytes
PostsInner log bytes old (Err fault) new = IsRefused log (length bytes) old new ⊎ PostFailed old new bytes

-- A call of the outer flash, made by calls of the inner flash: at each cut of them the outer flash is what the call may leave.
pub record MarkMade (work : InMemory) (mark : Mark) (old : BoardState) (result : Result Unit NandFault) (work' : InMemory) (new : BoardState) : Type 0 where
  pub shape : work'.shape ≡ work.shape
  pub spares : work'.spares ≡ work.spares
  pub passes : PassesCalls (MayShow work.shape work.spares (outer_pages work.shape work.spares old.pages) mark) old new
  pub rest : OnlyFlash old new
  pub fall : SparesFallBy (work.spares - work.taken) old (work.spares - work'.taken) new
  pub done : OnOk result (through work.shape work.spares new.pages ≡ Some (after work.shape mark (outer_pages work.shape work.spares old.pages)))
  pub cause : OnErr result (StopCause work.shape work.spares mark old (work.spares - work'.taken) new)
