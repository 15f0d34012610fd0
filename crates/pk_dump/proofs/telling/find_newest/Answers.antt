use Rattle.pk_scan.proofs.Boards.{rest_failed, stays_reads, stays_ready_behind}
use Rattle.pk_dump.proofs.telling.find_newest.Goals as goal

pub returns-in-Ok-clause-board : goal.returns-in-Ok-clause-board
returns-in-Ok-clause-board g c = stays_reads c.args.root.now.shape _ _ (_, c.in-Ok.ensures.ok) c.requires.ready

pub returns-in-Err-clause-board : goal.returns-in-Err-clause-board
returns-in-Err-clause-board g c =
    stays_ready_behind c.args.root.now.shape _ _
    (rest_failed (g.B.Nand.state c.args.board.now) (g.B.Nand.state c.newest.new.board) c.in-Err.ensures.err.made _ c.in-Err.ensures.err.failed) c.requires.ready
