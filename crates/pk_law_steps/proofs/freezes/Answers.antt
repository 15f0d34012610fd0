use Rattle.pk_law_steps.proofs.FrozenNext.{frozen_next}
use Rattle.pk_law_steps.proofs.freezes.Goals as goal

pub returns : goal.returns
returns c = frozen_next
