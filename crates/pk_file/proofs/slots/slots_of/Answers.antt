use Rattle.std.proofs.Common.{◌≡◌, ◌∙◌, ◌+◌, ◌<◌, length, List, ℕ, take, sym, subst, arith}
use Rattle.pk_base.specs.Shape.{Shape}
use Rattle.pk_file.{specs.declared.slot.Slot.Slot, specs.Slots.state_bytes, specs.Slots.SlotFits, specs.Slots.AllFit}
use Rattle.pk_file.proofs.Slotting.{bytes_more, fit_more, byte_small, states_next}
use Rattle.pk_file.proofs.slots.slots_of.Goals as goal

pub loop-i-preserved : goal.loop-i-preserved
loop-i-preserved c =
    let slot = c.in-Ok-slot_in.slot in
    let states : List ℕ = c.args.states.now in
    let shape : Shape = c.args.reader.now.shape in
    let i : ℕ = c.loop-i.i in
    let P : List Slot → Type 0 = λ all. state_bytes all ≡ take (i + 1) states in
    let Q : List Slot → Type 0 = λ all. AllFit shape all in
    let R : Shape → Type 0 = λ s. SlotFits s slot in
    let room : i < length states = omega (arith, c.loop-i-test.true, c.requires, c.page_count-i-end.ensures.value) in
    record {
      shape = c.slot_in.ensures.shape ∙ c.loop-i.invariant.shape;
      states = subst P (sym c.in-Ok-push.ensures.items) (bytes_more c.loop-i.slots.items slot states i room c.loop-i.invariant.states c.in-Ok-slot_in.ensures.state);
      fit = subst Q (sym c.in-Ok-push.ensures.items) (fit_more shape c.loop-i.slots.items slot c.loop-i.invariant.fit (subst R c.loop-i.invariant.shape c.in-Ok-slot_in.ensures.fit));
      bad = sym (states_next states i room (byte_small slot _ c.in-Ok-slot_in.ensures.state)) ∙ c.loop-i.invariant.bad;
    }
