use Rattle.std.proofs.Common.{refl}
use Rattle.pk_schedule.{proofs.Stepping.other_answer, proofs.Calling.calls_one, proofs.Calling.calls_none}
use Rattle.pk_schedule.proofs.schedule.Schedule.step.Goals as goal

pub returns-in-Worked-clause-less : goal.returns-in-Worked-clause-less
returns-in-Worked-clause-less g c = λ e. c.in-Worked.ensures.less refl c.args.arena.now c.args.pool.now (g.B.Nand.state c.args.board.now) c.requires.ready

pub returns-in-Err-clause-unread : goal.returns-in-Err-clause-unread
returns-in-Err-clause-unread g c = λ e. c.in-Err.ensures.unread (other_answer c.in-Err.fault _ e)

pub returns-in-Err-clause-broken : goal.returns-in-Err-clause-broken
returns-in-Err-clause-broken g c = λ e. c.in-Err.ensures.broken (other_answer c.in-Err.fault _ e)

pub returns-in-Worked-clause-calls : goal.returns-in-Worked-clause-calls
returns-in-Worked-clause-calls g c = calls_none _ _ c.requires.ready

pub returns-in-Idle-begin-clause-calls : goal.returns-in-Idle-begin-clause-calls
returns-in-Idle-begin-clause-calls g c = calls_none _ _ c.requires.ready

pub returns-in-Ok-install-clause-calls : goal.returns-in-Ok-install-clause-calls
returns-in-Ok-install-clause-calls g c = calls_one _ _ _ _ _ _ c.in-Ok-install.ensures.step

pub returns-in-Err-install-clause-calls : goal.returns-in-Err-install-clause-calls
returns-in-Err-install-clause-calls g c = calls_one _ _ _ _ _ _ c.in-Err-install.ensures.step
