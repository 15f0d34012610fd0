use Rattle.pk_buf.proofs.Lookups.{by_order}
use Rattle.pk_buf.proofs.Places.{absent_read}
use Rattle.pk_buf.proofs.slot_by_order.Goals as goal

pub returns-in-Ok : goal.returns-in-Ok
returns-in-Ok c = by_order c.args.slots.now c.args.order.now c.args.key.now c.in-Ok.at c.requires.within c.in-Ok.ensures.bound c.in-Ok.ensures.found.1

pub returns-in-Err : goal.returns-in-Err
returns-in-Err c = absent_read c.args.slots.now c.args.key.now c.args.order.now _ c.requires.rising c.in-Err.ensures.absent.0 c.in-Err.ensures.absent.1
