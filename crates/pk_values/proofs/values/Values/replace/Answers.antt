use Rattle.pk_values.proofs.Standing.{old_head, new_head, new_inside, moved_as}
use Rattle.pk_values.proofs.values.Values.replace.Goals as goal

pub clear-requires : goal.clear-requires
clear-requires g c = let h = old_head c.args.self.now c.args.old c.args.new c.requires in rw (← c.self.view_is) at h

pub set-requires-clause-free : goal.set-requires-clause-free
set-requires-clause-free g c =
    let h = new_head c.args.self.now c.args.old c.args.new c.requires in
    let h' = rw (← c.self.view_is) at h in
    rw c.clear.ensures h'

pub set-requires-clause-inside : goal.set-requires-clause-inside
set-requires-clause-inside g c =
    let h = new_inside c.args.self.now c.args.old c.args.new c.requires in
    let h' = rw (← c.self.view_is) at h in
    rw c.clear.ensures h'

pub returns-clause-placed : goal.returns-clause-placed
returns-clause-placed g c =
    moved_as c.args.self.now c.args.old c.args.new (record { live = c.set.new.self; open_block = c.self.inside.open_block }) (rw (c.set.ensures, c.clear.ensures, ← c.self.view_is))
