use Rattle.pk_law_isolation.proofs.Sums.{first_is_part}
use Rattle.pk_law_isolation.proofs.laws.first_is_part.Goals as goal

pub returns : goal.returns
returns c = first_is_part
