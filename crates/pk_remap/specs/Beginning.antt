-- A call of the outer flash, as it is made on the inner flash: what it leaves if it is done, cut or failed.
use Rattle.std.specs.Prelude.{◌≡◌, ◌<◌, ◌≤◌, length, [], Some, true}
use Rattle.pk_base.{specs.Shape.IsShape, specs.Page.Flash, specs.Page.page_at, specs.Mark.after}
use Rattle.pk_nand.{specs.BoardState.BoardState, specs.Cut.Interrupted, specs.Calls.IsReady, specs.Calls.LeftBy}
use Rattle.pk_remap.{specs.declared.layout.TheConstants.MOST_SPARES, specs.Table.is_table, specs.Places.inner_shape, specs.Places.through_by, specs.Stepping.RelocationGoesOn}
use Rattle.pk_remap.{specs.Through.through, specs.Through.MayShow, specs.Through.mark_below, specs.Through.IsMarkWithin, specs.Relocating.Relocation, specs.Relocating.IsCall, specs.Relocating.IsTop}

-- the outer flash, by the newest table
abbrev pub above_of : Relocation → Flash → Flash
above_of r flash = through_by r.shape r.table (page_at flash)

-- the call can be made
pub record CanRelocate (r : Relocation) (board : BoardState) : Type 0 where
  pub ready : IsReady board (inner_shape r.shape r.spares)
  pub shape_is : IsShape r.shape
  pub few : r.spares ≤ MOST_SPARES
  pub within : IsMarkWithin r.shape r.mark
  pub call : IsCall r.shape r.mark (above_of r board.pages)
  pub grammar : is_table r.shape r.spares r.table ≡ true
  pub used : length r.table.serves ≤ r.taken
  pub taken : r.taken ≤ r.spares
  pub top : IsTop r board.pages

-- A cut of the inner call is a cut of the outer call.
abbrev pub CallsBelow : Type 0
CallsBelow = (r : Relocation) (old : BoardState) (cut : Flash) → CanRelocate r old → Interrupted (inner_shape r.shape r.spares) (mark_below r.shape r.table r.mark) old.pages cut []
    → MayShow r.shape r.spares (above_of r old.pages) r.mark cut

-- If the inner call is done, the outer call is done, by the same table.
pub record CallIsDone (r : Relocation) (old : BoardState) (flash : Flash) : Type 0 where
  pub top : IsTop r flash
  pub done : above_of r flash ≡ after r.shape r.mark (above_of r old.pages)
  pub shown : through r.shape r.spares flash ≡ Some (after r.shape r.mark (above_of r old.pages))

abbrev pub DoneBelow : Type 0
DoneBelow = (r : Relocation) (old : BoardState) → CanRelocate r old → CallIsDone r old (after (inner_shape r.shape r.spares) (mark_below r.shape r.table r.mark) old.pages)

-- If the inner call failed, the outer flash is what the outer call may leave, and a relocation can begin if a spare remains.
pub record CallHasFailed (r : Relocation) (old new : BoardState) : Type 0 where
  pub top : IsTop r new.pages
  pub left : Interrupted r.shape r.mark (above_of r old.pages) (above_of r new.pages) []
  pub begins : r.taken < r.spares → RelocationGoesOn r (above_of r old.pages) new

abbrev pub FailsBelow : Type 0
FailsBelow = (r : Relocation) (old new : BoardState) → CanRelocate r old → new.shape ≡ old.shape → LeftBy (mark_below r.shape r.table r.mark) old new → CallHasFailed r old new
