use Rattle.pk_top.proofs.Runs.{kept_through_runs}
use Rattle.pk_top.proofs.laws.sessions.Goals as goal

pub returns : goal.returns
returns c = kept_through_runs
