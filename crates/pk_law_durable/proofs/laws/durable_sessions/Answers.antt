use Rattle.pk_law_durable.proofs.DurableLemmas.{kept_through_durable}
use Rattle.pk_law_durable.proofs.laws.durable_sessions.Goals as goal

pub returns : goal.returns
returns c = kept_through_durable c.each_prefix_is_a_cut.ensures c.sessions.ensures
