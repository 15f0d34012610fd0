use Rattle.pk_values.proofs.Filling.{wrote_as, in_written_as}
use Rattle.pk_values.proofs.values.Values.wrote.Goals as goal

pub returns-clause-placed : goal.returns-clause-placed
returns-clause-placed g c pool old new writes outputs es placed =
    wrote_as c.args.shape.now c.args.self.now c.args.count
    (record { live = c.self.inside.live; open_block = c.more-self-inside.result }) c.requires (rw (c.more-self-inside.ensures.value, ← c.self.view_is))
    pool outputs old new es placed writes

pub returns-clause-in_open : goal.returns-clause-in_open
returns-clause-in_open g c =
    in_written_as c.args.shape.now c.args.self.now c.args.count
    (record { live = c.self.inside.live; open_block = c.more-self-inside.result }) c.requires (rw (c.more-self-inside.ensures.value, ← c.self.view_is))
