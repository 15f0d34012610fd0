use Rattle.pk_log.proofs.Standing.{opens}
use Rattle.pk_log.proofs.log.Log.new.Goals as goal

pub returns-clause-stands : goal.returns-clause-stands
returns-clause-stands g c flash found is =
    let shape = rw c.shape.ensures at c.known.ensures in
    rw (c.after.ensures.value, c.in_ok-pending.ensures.items) (opens c.args.root c.args.root_page c.args.epoch c.args.active c.args.frozen flash found shape is)
