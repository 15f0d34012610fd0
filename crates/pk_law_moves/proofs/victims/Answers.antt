use Rattle.pk_law_moves.proofs.Emptying.{one_is_sparse, fit_one_page, leaves_room}
use Rattle.pk_law_moves.proofs.victims.Goals as goal

pub returns-clause-one_is_sparse : goal.returns-clause-one_is_sparse
returns-clause-one_is_sparse c = one_is_sparse

pub returns-clause-one_page : goal.returns-clause-one_page
returns-clause-one_page c = fit_one_page

pub returns-clause-room : goal.returns-clause-room
returns-clause-room c = leaves_room
