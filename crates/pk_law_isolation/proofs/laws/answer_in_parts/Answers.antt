use Rattle.pk_law_isolation.proofs.InParts.{answered_in_parts}
use Rattle.pk_law_isolation.proofs.laws.answer_in_parts.Goals as goal

pub returns : goal.returns
returns c = answered_in_parts
