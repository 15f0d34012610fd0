use Rattle.std.proofs.Common.{◌<◌, ◌^◌, subst}
use Rattle.pk_nvme.specs.Command.{Command}
use Rattle.pk_host.proofs.HandedLemmas.{handed_so}
use Rattle.pk_host.proofs.handed.is_handed.Goals as goal

pub returns-clause-bytes : goal.returns-clause-bytes
returns-clause-bytes c = handed_so c.of-request.result _ c.args.value.now (c.of-request.ensures c.args.value.now) c.is_place.ensures.size c.is_place.ensures.bytes c.are_bytes.ensures c.requires

pub returns-clause-size : goal.returns-clause-size
returns-clause-size c = subst (λ (x : Command). x.size < 2 ^ 32) (c.of-request.ensures c.args.value.now) c.is_u32.ensures
