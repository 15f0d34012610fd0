use Rattle.pk_gc.proofs.Buffering.{moves_buffered, moves_fit}
use Rattle.pk_gc.proofs.laws.buffered.Goals as goal

pub returns-clause-moves : goal.returns-clause-moves
returns-clause-moves c = moves_buffered

pub returns-clause-fit : goal.returns-clause-fit
returns-clause-fit c = moves_fit
