use Rattle.pk_core.proofs.Counting.{flush_done}
use Rattle.pk_core.proofs.quiet.flush.Goals as goal

pub returns-clause-does : goal.returns-clause-does
returns-clause-does g c = λ into. flush_done c.args.parts.now c.served.result into c.served.ensures
