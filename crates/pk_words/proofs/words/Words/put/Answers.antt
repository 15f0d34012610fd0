use Rattle.std.proofs.Common.{ap}
use Rattle.pk_nvme.specs.Bytes.{RoomyList}
use Rattle.pk_host.specs.Outcomes.{stored}
use Rattle.pk_words.proofs.SaidLemmas.{said_status}
use Rattle.pk_words.proofs.words.Words.put.Goals as goal

pub returns-in-Ok-clause-said : goal.returns-in-Ok-clause-said
returns-in-Ok-clause-said g c = said_status stored _ _ _ c.store.result _ _ c.store.ensures.gives c.in-Ok.ensures (ap (λ (t : RoomyList). t.items) c.say_status.ensures)
