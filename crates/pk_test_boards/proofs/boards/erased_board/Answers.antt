use Rattle.std.proofs.Common.{ap}
use Rattle.pk_nand.specs.BoardState.{BoardState}
use Rattle.pk_test_boards.proofs.ErasedBoards.{each_erased}
use Rattle.pk_test_boards.proofs.boards.erased_board.Goals as goal

pub returns-clause-each : goal.returns-clause-each
returns-clause-each c = each_erased c.args.shape _ (rw c.in_ok-fail.ensures.rest (ap (λ (b : BoardState). b.pages) c.in_ok-board.ensures.board))
