use Rattle.std.proofs.Common.{◌∙◌, ◌+◌, ◌<◌, ℕ, arith, sym, subst, refl}
use Rattle.std.proofs.lemmas.List.{length-map}
use Rattle.pk_base.specs.Page.{Flash}
use Rattle.pk_file.{specs.Slots.pages_of, specs.Slots.slot_page, specs.Slots.ErasedRow, proofs.Rows.row_more, proofs.Slotting.erased_fits}
use Rattle.pk_file.specs.declared.slot.Slot.TheVariants.{Erased}
use Rattle.pk_file.proofs.logged.clear_slots.Goals as goal

pub loop-i-preserved : goal.loop-i-preserved
loop-i-preserved c =
    let first : ℕ = c.args.first in
    let i : ℕ = c.loop-i.i in
    let now = c.loop-i.slots.items in
    let P : Flash → Type 0 = λ f. ErasedRow first (i + 1) (pages_of c.args.slots.now.items) f in
    let Q : ℕ → Type 0 = λ n. first + i < n in
    let room = subst Q (sym (length-map now slot_page)) (omega (arith, c.loop-i.invariant.count, c.requires, c.loop-i-test.true)) in
    record {
      pages = subst P (sym c.set_slot.ensures.pages) (row_more first i (pages_of c.args.slots.now.items) (pages_of now) room c.loop-i.invariant.pages);
      count = c.set_slot.ensures.count ∙ c.loop-i.invariant.count;
      fit = λ shape h. c.set_slot.ensures.fit shape (c.loop-i.invariant.fit shape h) (erased_fits shape (Erased c.args.extent) refl);
    }
