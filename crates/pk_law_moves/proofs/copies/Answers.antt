use Rattle.pk_law_moves.proofs.Moving.{copies}
use Rattle.pk_law_moves.proofs.copies.Goals as goal

pub returns : goal.returns
returns c = copies
