use Rattle.pk_law_isolation.proofs.Fixing.{fixed}
use Rattle.pk_law_isolation.proofs.laws.answers_are_fixed.Goals as goal

pub returns : goal.returns
returns c = fixed
