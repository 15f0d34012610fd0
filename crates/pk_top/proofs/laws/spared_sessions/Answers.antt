use Rattle.pk_top.proofs.SparedSessions.{kept_through_spared}
use Rattle.pk_top.proofs.laws.spared_sessions.Goals as goal

pub returns : goal.returns
returns c = kept_through_spared
