use Rattle.std.proofs.Common.{◌∙◌, ap, slice_get}
use Rattle.pk_walk.proofs.Wanting.{first_of_all, first_from}
use Rattle.pk_walk.proofs.buffers.place_in.Goals as goal

pub returns-in-First : goal.returns-in-First
returns-in-First g c = rw c.in-First.is (first_of_all c.args.buffer.now.entries)

pub returns-in-From : goal.returns-in-From
returns-in-From g c = rw c.in-From.is (ap (slice_get c.args.buffer.now.entries) c.from.ensures.place ∙ first_from c.in-From.key c.args.buffer.now.entries)
