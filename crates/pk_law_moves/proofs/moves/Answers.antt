use Rattle.pk_law_moves.proofs.Moving.{moves_stay, places_move, moves_commit, moves_pair, moves_committed}
use Rattle.pk_law_moves.proofs.moves.Goals as goal

pub returns-clause-moves : goal.returns-clause-moves
returns-clause-moves c = moves_stay

pub returns-clause-places : goal.returns-clause-places
returns-clause-places c = places_move

pub returns-clause-commit : goal.returns-clause-commit
returns-clause-commit c = moves_commit

pub returns-clause-pair : goal.returns-clause-pair
returns-clause-pair c = moves_pair

pub returns-clause-committed : goal.returns-clause-committed
returns-clause-committed c = moves_committed
