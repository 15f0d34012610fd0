use Rattle.pk_test_boards.proofs.ErasedBoards.{shape_is, numbers_are}
use Rattle.pk_test_boards.proofs.boards.worked.Goals as goal

pub returns-in-Ok-clause-shape : goal.returns-in-Ok-clause-shape
returns-in-Ok-clause-shape c = shape_is c.in-Ok.shape c.new.result c.in-Ok.is c.new.ensures

pub returns-in-Ok-clause-numbers : goal.returns-in-Ok-clause-numbers
returns-in-Ok-clause-numbers c = numbers_are c.in-Ok.shape (shape_is c.in-Ok.shape c.new.result c.in-Ok.is c.new.ensures)
