use Rattle.pk_host.proofs.CallLemmas.{store_leaves}
use Rattle.pk_host.proofs.host.Host.store.Goals as goal

pub returns-in-0-clause-stores : goal.returns-in-0-clause-stores
returns-in-0-clause-stores g c = store_leaves _ _ _ _ c.bytes.ensures.value c.bytes.ensures.key c.requires.own _ _ _ c.in-Ok.ensures.replies c.in-0.is
