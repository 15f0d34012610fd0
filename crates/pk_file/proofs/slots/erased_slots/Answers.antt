use Rattle.pk_file.proofs.Slotting.{erased_fit}
use Rattle.pk_file.proofs.slots.erased_slots.Goals as goal

pub returns-clause-fit : goal.returns-clause-fit
returns-clause-fit c = erased_fit c.args.shape.now c.loop-i.slots.items c.loop-i.i c.loop-i.invariant.pages
