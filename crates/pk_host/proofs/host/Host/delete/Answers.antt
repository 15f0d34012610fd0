use Rattle.pk_host.proofs.CallLemmas.{delete_tests, delete_leaves}
use Rattle.pk_host.proofs.host.Host.delete.Goals as goal

pub returns-in-Ok-clause-tests : goal.returns-in-Ok-clause-tests
returns-in-Ok-clause-tests g c = delete_tests _ _ _ _ c.bytes.ensures.value c.bytes.ensures.key c.requires.own _ _ c.in-Ok.ensures.replies c.existed_by.ensures

pub returns-in-Ok-clause-deletes : goal.returns-in-Ok-clause-deletes
returns-in-Ok-clause-deletes g c = delete_leaves _ _ _ _ c.bytes.ensures.value c.bytes.ensures.key c.requires.own _ _ c.in-Ok.ensures.replies c.existed_by.ensures
