use Rattle.std.proofs.Common.{ap}
use Rattle.pk_nvme.specs.Bytes.{RoomyList}
use Rattle.pk_host.specs.Outcomes.{existed}
use Rattle.pk_words.proofs.SaidLemmas.{said_status}
use Rattle.pk_words.proofs.words.Words.has.Goals as goal

pub returns-in-Ok-clause-said : goal.returns-in-Ok-clause-said
returns-in-Ok-clause-said g c = said_status existed _ _ _ c.exist.result _ _ c.exist.ensures.gives c.in-Ok.ensures (ap (λ (t : RoomyList). t.items) c.say_status.ensures)
