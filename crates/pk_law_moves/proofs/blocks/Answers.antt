use Rattle.pk_law_moves.proofs.Emptying.{lie_in_others, none_left}
use Rattle.pk_law_moves.proofs.blocks.Goals as goal

pub returns-clause-others : goal.returns-clause-others
returns-clause-others c = lie_in_others

pub returns-clause-none_left : goal.returns-clause-none_left
returns-clause-none_left c = none_left
