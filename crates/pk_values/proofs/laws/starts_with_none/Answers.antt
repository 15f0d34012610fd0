use Rattle.pk_values.proofs.Nothing.{starts_with_none}
use Rattle.pk_values.proofs.laws.starts_with_none.Goals as goal

pub returns : goal.returns
returns c = starts_with_none
