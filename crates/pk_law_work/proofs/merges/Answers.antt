use Rattle.pk_law_work.proofs.Lowering.{moves, ends}
use Rattle.pk_law_work.proofs.merges.Goals as goal

pub returns-clause-moves : goal.returns-clause-moves
returns-clause-moves c = moves

pub returns-clause-ends : goal.returns-clause-ends
returns-clause-ends c = ends
