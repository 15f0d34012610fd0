use Rattle.pk_log.proofs.Standing.{logs_elsewhere}
use Rattle.pk_log.proofs.laws.elsewhere.Goals as goal

pub returns : goal.returns
returns c = logs_elsewhere
