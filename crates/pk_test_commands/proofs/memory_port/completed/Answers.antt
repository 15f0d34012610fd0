use Rattle.std.proofs.Common.{refl, ap}
use Rattle.pk_nvme.specs.Command.{Command}
use Rattle.pk_test_commands.proofs.PortLemmas.{completes_so}
use Rattle.pk_test_commands.proofs.memory_port.completed.Goals as goal

pub returns : goal.returns
returns c old new value replies =
    completes_so old new _ c.args.answer.now c.of.result.cid c.args.taken _ c.bytes-data.result.now c.args.into.now c.put_front.new.into c.completion.ensures refl
    (ap (λ (x : Command). x.cid) (c.of.ensures value)) c.bytes-data.ensures c.requires.room c.put_front.ensures.front c.put_front.ensures.size replies
