-- The first table of a flash that was just made.
use Rattle.std.specs.Prelude.{◌≡◌, ◌⊎◌, ℕ, List, [], Some, None, Result, Ok, Err, replicate}
use Rattle.pk_base.{specs.Shape.Shape, specs.Shape.page_count, specs.Page.Flash, specs.Page.erased, specs.Page.IsPage}
use Rattle.pk_nand.{specs.BoardState.BoardState, specs.Calls.Rose, specs.Calls.after_program, specs.Effects.OnlyFlash, specs.declared.types.NandFault.NandFault}
use Rattle.pk_remap.{specs.declared.relocation.Relocation.Relocation as InMemory, specs.Table.SpareTable, specs.Table.table_bytes, specs.Newest.first_table_page, specs.Places.inner_shape}
use Rattle.pk_remap.{specs.Remapped.outer_pages, specs.Running.HasPageBuffers, specs.Running.IsAtRest, specs.Through.through, specs.Serving.PassesCalls}

-- by it no spare is used
abbrev pub first_table : SpareTable
first_table = record { number = 1; serves = [] }

abbrev pub first_table_bytes : InMemory → List ℕ
first_table_bytes r = table_bytes r.shape r.spares first_table

-- the board was just made, with all pages Erased
pub record IsMade (shape : Shape) (spares : ℕ) (board : BoardState) : Type 0 where
  pub shape_is : board.shape ≡ Some (inner_shape shape spares)
  pub all_erased : board.pages ≡ replicate (page_count (inner_shape shape spares)) erased

-- and then the first table was programmed in the first page
pub record IsHalfMade (r : InMemory) (made half : BoardState) : Type 0 where
  pub was : IsMade r.shape r.spares made
  pub full : IsPage r.shape (first_table_bytes r)
  pub board : half ≡ after_program made (first_table_page r.shape r.spares) (first_table_bytes r)

-- there is no table, or the outer flash has all pages Erased
abbrev pub IsNoneOrErased : Shape → ℕ → Flash → Type 0
IsNoneOrErased shape spares flash = (through shape spares flash ≡ None) ⊎ (through shape spares flash ≡ Some (replicate (page_count shape) erased))

-- the first table was written: the outer flash has all pages Erased
pub record FirstTableWritten (r : InMemory) (old : BoardState) (r' : InMemory) (new : BoardState) : Type 0 where
  pub rests : IsAtRest r' new
  pub shape : r'.shape ≡ r.shape
  pub spares : r'.spares ≡ r.spares
  pub none : r'.taken ≡ 0
  pub unused : r'.used ≡ 0
  pub shown : outer_pages r.shape r.spares new.pages ≡ replicate (page_count r.shape) erased
  pub rest : OnlyFlash old new
  pub cuts : PassesCalls (IsNoneOrErased r.shape r.spares) old new

-- one of its programs failed
pub record FirstTableFailed (r : InMemory) (old : BoardState) (r' : InMemory) (new : BoardState) : Type 0 where
  pub faults : Rose old.flash_faults new.flash_faults
  pub shape : r'.shape ≡ r.shape
  pub spares : r'.spares ≡ r.spares
  pub none : r'.taken ≡ 0
  pub room : HasPageBuffers r'
  pub rest : OnlyFlash old new
  pub cuts : PassesCalls (IsNoneOrErased r.shape r.spares) old new

abbrev pub FirstTableOutcome : InMemory → BoardState → Result Unit NandFault → InMemory → BoardState → Type 0
FirstTableOutcome r old (Ok u) r' new = FirstTableWritten r old r' new
FirstTableOutcome r old (Err e) r' new = FirstTableFailed r old r' new
