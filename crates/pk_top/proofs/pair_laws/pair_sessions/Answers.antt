use Rattle.pk_top.proofs.PairSessions.{kept_through_pair}
use Rattle.pk_top.proofs.pair_laws.pair_sessions.Goals as goal

pub returns : goal.returns
returns c = kept_through_pair
