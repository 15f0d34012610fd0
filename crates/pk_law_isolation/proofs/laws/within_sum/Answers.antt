use Rattle.pk_law_isolation.proofs.Sums.{within_sum}
use Rattle.pk_law_isolation.proofs.laws.within_sum.Goals as goal

pub returns : goal.returns
returns c = within_sum
