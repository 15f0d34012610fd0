use Rattle.pk_host.proofs.ReadLemmas.{above_none}
use Rattle.pk_host.proofs.listing.is_above.Goals as goal

pub returns-in-None : goal.returns-in-None
returns-in-None c = rw c.in-None.is (above_none c.args.key.now c.bytes.ensures.key)
