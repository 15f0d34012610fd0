use Rattle.pk_values.proofs.Standing.{held_head, removed_as}
use Rattle.pk_values.proofs.values.Values.remove.Goals as goal

pub clear-requires : goal.clear-requires
clear-requires g c = let h = held_head c.args.self.now c.args.span c.requires in rw (← c.self.view_is) at h

pub returns-clause-placed : goal.returns-clause-placed
returns-clause-placed g c =
    removed_as c.args.self.now c.args.span (record { live = c.clear.new.self; open_block = c.self.inside.open_block }) (rw (c.clear.ensures, ← c.self.view_is))
