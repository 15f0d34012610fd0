use Rattle.std.proofs.Common.{refl}
use Rattle.pk_nvme.specs.declared.opcode.Opcode.TheVariants.{Exist}
use Rattle.pk_host.proofs.CallLemmas.{exist_tests, leaves_map, ok_if}
use Rattle.pk_host.proofs.host.Host.exist.Goals as goal

pub returns-in-Ok-clause-tests : goal.returns-in-Ok-clause-tests
returns-in-Ok-clause-tests g c = exist_tests _ _ _ _ c.bytes.ensures.value c.bytes.ensures.key c.requires.own _ _ c.in-Ok.ensures.replies c.existed_by.ensures

pub returns-in-Ok-clause-leaves : goal.returns-in-Ok-clause-leaves
returns-in-Ok-clause-leaves g c = ok_if c.existed_by.result _ (leaves_map _ _ _ Exist _ refl (λ m. refl) c.in-Ok.ensures.replies)
