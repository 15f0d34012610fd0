use Rattle.std.proofs.Common.{◌∙◌, ◌+◌, ◌<◌, ℕ, arith, ap, sym, subst, slice_set}
use Rattle.std.proofs.lemmas.List.{length-map}
use Rattle.pk_base.specs.Page.{Page, Flash}
use Rattle.pk_file.{specs.Slots.pages_of, specs.Slots.slot_page, specs.Slots.ErasedRow, proofs.Rows.row_more, proofs.Slotting.erased_fits, proofs.Slotting.same_extent}
use Rattle.pk_file.proofs.slots.erase_slots.Goals as goal

pub loop-i-preserved : goal.loop-i-preserved
loop-i-preserved c =
    let first : ℕ = c.args.first in
    let i : ℕ = c.loop-i.i in
    let now = c.loop-i.slots.items in
    let P : Flash → Type 0 = λ f. ErasedRow first (i + 1) (pages_of c.args.slots.now.items) f in
    let Q : ℕ → Type 0 = λ n. first + i < n in
    let room = subst Q (sym (length-map now slot_page)) (omega (arith, c.loop-i.invariant.count, c.requires, c.loop-i-test.true)) in
    let here = c.set_slot.ensures.pages ∙ ap (λ (p : Page). slice_set (pages_of now) (first + i) p) c.erased-slot.ensures.page in
    record {
      pages = subst P (sym here) (row_more first i (pages_of c.args.slots.now.items) (pages_of now) room c.loop-i.invariant.pages);
      extents = c.set_slot.ensures.extents
          ∙ (same_extent now (first + i) c.index.result.now (omega (arith, c.loop-i.invariant.count, c.requires, c.loop-i-test.true)) c.index.ensures _ c.erased-slot.ensures.extent
          ∙ c.loop-i.invariant.extents);
      count = c.set_slot.ensures.count ∙ c.loop-i.invariant.count;
      fit = λ shape h. c.set_slot.ensures.fit shape (c.loop-i.invariant.fit shape h) (erased_fits shape c.erased-slot.result c.erased-slot.ensures.page);
    }
