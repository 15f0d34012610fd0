use Rattle.pk_law_isolation.proofs.Isolating.{isolated}
use Rattle.pk_law_isolation.proofs.laws.isolation.Goals as goal

pub returns : goal.returns
returns c = isolated
