use Rattle.pk_gc.proofs.Lowering.{step_lowers, live_of_block}
use Rattle.pk_gc.proofs.laws.lowers.Goals as goal

pub returns-clause-steps : goal.returns-clause-steps
returns-clause-steps c = step_lowers

pub returns-clause-live : goal.returns-clause-live
returns-clause-live c = live_of_block
