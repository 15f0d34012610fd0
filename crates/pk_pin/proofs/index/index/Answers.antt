use Rattle.pk_pin.proofs.index.index.Goals as goal

pub returns-clause-indexed : goal.returns-clause-indexed
returns-clause-indexed c h = rw c.get_u16-count.ensures at c.note_all.ensures.homes
