use Rattle.pk_scan.proofs.Boards.{stays_ready_behind}
use Rattle.pk_dump.proofs.reading.reading_of.Goals as goal

pub returns-in-Ok-clause-board : goal.returns-in-Ok-clause-board
returns-in-Ok-clause-board g c =
    stays_ready_behind c.args.shape (g.B.Nand.state c.args.board.now) (g.B.Nand.state c.scan.new.board) c.scan.ensures.rest c.requires.ready
