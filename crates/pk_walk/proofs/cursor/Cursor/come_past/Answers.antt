use Rattle.std.proofs.Common.{arith}
use Rattle.pk_walk.proofs.Following.{end_fits}
use Rattle.pk_walk.proofs.cursor.Cursor.come_past.Goals as goal

pub overflow_mul-end : goal.overflow_mul-end
overflow_mul-end g c = omega (arith, end_fits c.self.inside.shape c.args.p c.entries.result c.entries.ensures.shape c.requires c.entries.ensures.value)
