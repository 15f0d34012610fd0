use Rattle.pk_host.proofs.CauseLemmas.{retrieve_cause}
use Rattle.pk_host.proofs.host.Host.front.Goals as goal

pub returns-in-Err-retrieve-clause-causes : goal.returns-in-Err-retrieve-clause-causes
returns-in-Err-retrieve-clause-causes g c = retrieve_cause _ _ c.args.key.now _ c.in-Err-retrieve.error c.bytes.ensures.key c.in-Err-retrieve.ensures.gives
