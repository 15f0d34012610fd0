use Rattle.pk_pool.specs.Blocks.{freed}
use Rattle.pk_schedule.proofs.Exchanging.{exchanges}
use Rattle.pk_schedule.proofs.schedule.Schedule.exchange.Goals as goal

pub returns-clause-exchanged : goal.returns-clause-exchanged
returns-clause-exchanged g c =
    rw (← c.self.view_is)
    (exchanges c.args.levels.now c.install_run-former.new.self c.args.arena.now c.leave.new.arena (freed c.args.pool.now)
    (freed c.leave.new.pool) c.self.inside.job c.take-run.new.self c.leave.new.self c.args.level c.take-run.result c.install_run-former.result
    c.take-run.ensures.taken c.take-run.ensures.left c.install_run-former.ensures.installed c.install_run-former.ensures.former c.leave.ensures.kept
    c.leave.ensures.pool c.leave.ensures.arena c.leave.ensures.fits c.leave.ensures.others c.leave.ensures.leases c.leave.ensures.unready)
