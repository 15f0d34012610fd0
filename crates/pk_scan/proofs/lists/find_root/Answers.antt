use Rattle.pk_scan.{proofs.Boards.rest_failed, proofs.Boards.stays_reads, proofs.Boards.stays_ready_behind, proofs.Opened.no_root}
use Rattle.pk_scan.proofs.lists.find_root.Goals as goal

pub returns-in-Ok-None-clause-err : goal.returns-in-Ok-None-clause-err
returns-in-Ok-None-clause-err g c = (no_root c.args.root.now.shape (g.B.Nand.state c.args.board.now).pages (rw c.in-Ok-None.field-0-is at c.in-Ok-None.ensures.found), (_, c.in-Ok-None.ensures.ok))

pub returns-in-Ok-Some-clause-board : goal.returns-in-Ok-Some-clause-board
returns-in-Ok-Some-clause-board g c = stays_reads c.args.root.now.shape _ _ (_, c.in-Ok-Some.ensures.ok) c.requires.ready

pub returns-in-Ok-None-clause-board : goal.returns-in-Ok-None-clause-board
returns-in-Ok-None-clause-board g c = stays_reads c.args.root.now.shape _ _ (_, c.in-Ok-None.ensures.ok) c.requires.ready

pub returns-in-Err-clause-board : goal.returns-in-Err-clause-board
returns-in-Err-clause-board g c = stays_ready_behind c.args.root.now.shape _ _
    (rest_failed (g.B.Nand.state c.args.board.now) (g.B.Nand.state c.newest.new.board) c.in-Err.ensures.err.made _ c.in-Err.ensures.err.failed) c.requires.ready
