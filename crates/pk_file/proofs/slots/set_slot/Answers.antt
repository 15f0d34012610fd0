use Rattle.std.proofs.lemmas.List.{map-set}
use Rattle.pk_file.{specs.Slots.slot_page, specs.Extents.extent_of, proofs.Slotting.fit_set}
use Rattle.pk_file.proofs.slots.set_slot.Goals as goal

pub returns-clause-pages : goal.returns-clause-pages
returns-clause-pages c = map-set slot_page _ _ _

pub returns-clause-extents : goal.returns-clause-extents
returns-clause-extents c = map-set extent_of _ _ _

pub returns-clause-fit : goal.returns-clause-fit
returns-clause-fit c shape fit own = fit_set shape c.args.slots.now.items c.args.page c.args.slot fit own
