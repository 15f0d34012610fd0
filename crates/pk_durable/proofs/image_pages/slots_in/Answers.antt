use Rattle.std.proofs.Common.{◌≡◌, ◌+◌, List, [], ◌∷◌, length, sym, ap, subst, arith, length-append}
use Rattle.pk_image.specs.Image.{pages_in_file}
use Rattle.pk_file.{specs.declared.slot.Slot.Slot, specs.Slots.pages_of, specs.Slots.AllFit, proofs.Slotting.fit_more}
use Rattle.pk_durable.proofs.ImagePages.{slots_more}
use Rattle.pk_durable.proofs.image_pages.slots_in.Goals as goal

pub loop-page-preserved : goal.loop-page-preserved
loop-page-preserved c =
    let shape = c.args.shape.now in
    let slot = c.in-Ok-slot_at.slot in
    let P : List Slot → Type 0 = λ all. pages_of all ≡ pages_in_file shape c.args.file.now 0 (c.loop-page.page + 1) in
    let Q : List Slot → Type 0 = λ all. AllFit shape all in
    record {
      pages = subst P (sym c.in-Ok-push.ensures.items) (slots_more shape c.args.file.now c.loop-page.slots.items slot c.loop-page.page c.loop-page.invariant.pages c.in-Ok-slot_at.ensures.page);
      count = omega (arith, c.loop-page.invariant.count, ap (λ (l : List Slot). length l) c.in-Ok-push.ensures.items, length-append c.loop-page.slots.items (slot ∷ []));
      fit = subst Q (sym c.in-Ok-push.ensures.items) (fit_more shape c.loop-page.slots.items slot c.loop-page.invariant.fit c.in-Ok-slot_at.ensures.fit);
    }
