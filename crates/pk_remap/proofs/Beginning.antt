-- A call of the outer flash, as it is made on the inner flash.
use Rattle.std.proofs.Common.{◌≡◌, inl, ℕ, ◌+◌, ◌/◌, ◌<◌, ◌≤◌, List, [], length, refl, ap, ◌∙◌, arith, Some}
use Rattle.pk_base.{specs.Shape.Shape, specs.Page.Flash, specs.Page.page_at, specs.Page.IsPage, specs.Page.IsFlash}
use Rattle.pk_base.specs.Mark.{Mark, program, erase, post, after}
use Rattle.pk_nand.{specs.BoardState.BoardState, specs.Cut.Interrupted, specs.Cut.touched_block, specs.Calls.IsReady, proofs.Touching.elsewhere}
use Rattle.pk_nand.proofs.Leaving.{IsFlash-interrupted, full_program, full_erase, interrupted_done}
use Rattle.pk_remap.{specs.Places.inner_shape, specs.Places.place, specs.Places.placed_page, specs.Newest.IsTablePage, specs.Through.MayShow, specs.Through.mark_below, specs.Through.IsMarkWithin}
use Rattle.pk_remap.{specs.Relocating.Relocation, specs.Relocating.IsCall, specs.Relocating.IsTop, proofs.Finding.newest-kept, proofs.Lifting.lifts, proofs.Lifting.lift-done}
use Rattle.pk_remap.{specs.Beginning.above_of, specs.Beginning.CanRelocate, specs.Beginning.CallsBelow, specs.Beginning.DoneBelow, specs.Beginning.FailsBelow, proofs.Calls.left_interrupted}
use Rattle.pk_remap.proofs.Placing.{placed_page-div, place-below, block_of as page_block, whole_through}
use Rattle.pk_remap.proofs.Standing.{shows, may_show, table_block}

module _ (r : Relocation) (old : BoardState) (can : CanRelocate r old) where
  abbrev shape : Shape
  shape = r.shape

  abbrev n : ℕ
  n = r.shape.block_pages

  abbrev inner : Shape
  inner = inner_shape r.shape r.spares

  some : 0 < n
  some = let least = can.shape_is.block_least in omega (arith, least)

  used_spares : length r.table.serves ≤ r.spares
  used_spares = let used = can.used in let taken = can.taken in omega (arith, used, taken)

  -- the inner block of the call
  block_below : (block' : ℕ) × (touched_block inner (mark_below shape r.table r.mark) ≡ Some block') × (block' < shape.blocks + length r.table.serves)
  block_below = by r.mark can.within
    where
      by : (mark : Mark) → IsMarkWithin shape mark → (block' : ℕ)
          × (touched_block inner (mark_below shape r.table mark) ≡ Some block') × (block' < shape.blocks + length r.table.serves)
      by (program at bytes) within = (
        place shape r.table (at / n),
        ap (λ (b : ℕ). Some b) (placed_page-div shape r.table some at),
        place-below shape r.table (at / n) (page_block shape r.table some at within),
      )
      by (erase b) within = (place shape r.table b, refl, place-below shape r.table b within)
      by (post bytes) within = absurd within

  module _ (cut : Flash) (i : Interrupted inner (mark_below shape r.table r.mark) old.pages cut []) where
    pub table_kept : (k : ℕ) → IsTablePage shape r.spares k → page_at cut k ≡ page_at old.pages k
    table_kept k there =
        let own = block_below in
        let used = used_spares in
        let here = table_block shape r.spares some k there in
        let less = own.2 in
        elsewhere inner (mark_below shape r.table r.mark) k own.0 (page_at old.pages k)
        (page_at cut k) own.1 (λ e. omega (arith, e, here, less, used)) (i.pages k)

    pub cut_top : IsTop r cut
    cut_top = newest-kept shape r.spares (page_at old.pages) (page_at cut) r.top r.table can.top
        (table_kept r.top can.top.there) (λ k there. inl (table_kept k there))

    pub cut_left : Interrupted shape r.mark (above_of r old.pages) (above_of r cut) []
    cut_left = lifts shape r.spares r.table some used_spares r.mark old.pages cut can.within i

    pub cut_shows : MayShow shape r.spares (above_of r old.pages) r.mark cut
    cut_shows = may_show shape r.spares (above_of r old.pages) cut r.mark r.top r.table cut_top cut_left

  -- the outer flash is one of its shape
  pub whole_above : IsFlash shape (above_of r old.pages)
  whole_above = whole_through shape r.table (page_at old.pages) can.ready.flash.full

  full_mark : (mark : Mark) → IsCall shape mark (above_of r old.pages)
      → (at : ℕ) (bs : List ℕ) → mark_below shape r.table mark ≡ program at bs → IsPage inner bs
  full_mark (program at' bytes') call = full_program inner (placed_page shape r.table at') bytes' call.1
  full_mark (erase b) call = full_erase inner (place shape r.table b)
  full_mark (post bs) call = absurd call

pub calls_below : CallsBelow
calls_below r old cut can i = cut_shows r old can cut i

pub done_below : DoneBelow
done_below r old can =
    let flash : Flash = after (inner_shape r.shape r.spares) (mark_below r.shape r.table r.mark) old.pages in
    let i = interrupted_done (inner_shape r.shape r.spares) (mark_below r.shape r.table r.mark) old.pages in
    let top = cut_top r old can flash i in
    let done : above_of r flash ≡ after r.shape r.mark (above_of r old.pages) =
    lift-done r.shape r.spares r.table (some r old can) (used_spares r old can) old.pages can.ready.flash.size r.mark can.within in
    record { top = top; done = done; shown = shows r.shape r.spares flash r.top r.table top ∙ ap (λ (f : Flash). Some f) done }

pub fails_below : FailsBelow
fails_below r old new can same left =
    let i = left_interrupted old new (inner_shape r.shape r.spares) (mark_below r.shape r.table r.mark) can.ready left in
    let ready : IsReady new (inner_shape r.shape r.spares) = record {
      shape_is = same ∙ can.ready.shape_is;
      flash = IsFlash-interrupted (inner_shape r.shape r.spares)
          (mark_below r.shape r.table r.mark) old.pages new.pages [] (full_mark r old can r.mark can.call) can.ready.flash i;
    } in
    record {
      top = cut_top r old can new.pages i;
      left = cut_left r old can new.pages i;
      begins = λ room. record {
        ready = ready;
        serving = record {
          shape_is = can.shape_is;
          few = can.few;
          whole_above = whole_above r old can;
          within = can.within;
          call = can.call;
          grammar = can.grammar;
          used = can.used;
          left = room;
          whole_below = ready.flash;
          above = cut_left r old can new.pages i;
        };
      };
    }
