use Rattle.pk_law_work.proofs.Lowering.{freeze_moves, freeze_ends, pair_ends}
use Rattle.pk_law_work.proofs.freezes.Goals as goal

pub returns-clause-moves : goal.returns-clause-moves
returns-clause-moves c = freeze_moves

pub returns-clause-ends : goal.returns-clause-ends
returns-clause-ends c = freeze_ends

pub returns-clause-pair : goal.returns-clause-pair
returns-clause-pair c = pair_ends
