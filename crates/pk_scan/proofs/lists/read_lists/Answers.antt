use Rattle.std.proofs.Common.{◌∙◌}
use Rattle.pk_scan.{proofs.Boards.reads_both, proofs.Boards.stays_both, proofs.Exact.lists_exact}
use Rattle.pk_scan.proofs.Opened.{older_refuses, newest_refuses, newest_here, runs_refuse, all_held}
use Rattle.pk_scan.proofs.lists.read_lists.Goals as goal

pub returns-in-Ok-load_runs-clause-loads : goal.returns-in-Ok-load_runs-clause-loads
returns-in-Ok-load_runs-clause-loads g c =
    let shape = c.args.found.now.root.shape in
    let root = c.args.found.now.root.root in
    let old = g.B.Nand.state c.args.board.now in
    let first = g.B.Nand.state c.read_older.new.board in
    let second = g.B.Nand.state c.read_newest.new.board in
    let newest = newest_here shape root old c.read_older.new.into c.in-Ok.ensures.held first
    (_, c.in-Ok.ensures.reads) c.read_older.ensures.board.pages c.read_newest.new.into c.in-Ok-read_newest.epoch c.in-Ok-read_newest.ensures.held in
    let loaded = c.in-Ok-load_runs.ensures.loaded in
    let all = all_held shape root old c.read_older.new.into c.read_newest.new.into c.in-Ok-read_newest.epoch c.in-Ok.ensures.held newest second
    (reads_both old first second (_, c.in-Ok.ensures.reads) (_, c.in-Ok-read_newest.ensures.reads)) (c.read_newest.ensures.board.pages ∙ c.read_older.ensures.board.pages)
    c.load_runs.new.arena c.load_runs.new.levels (loaded.ess, loaded.held) in
    (all.0, record { held = all.1; more = loaded.more; pinned_is = loaded.pinned_is; levels_shape = loaded.shape_is })

pub returns-in-Ok-load_runs-clause-reads : goal.returns-in-Ok-load_runs-clause-reads
returns-in-Ok-load_runs-clause-reads g c =
    let old = g.B.Nand.state c.args.board.now in
    let first = g.B.Nand.state c.read_older.new.board in
    let second = g.B.Nand.state c.read_newest.new.board in
    lists_exact c.args.found.now.root.shape c.args.found.now.root.root old first second
    (g.B.Nand.state c.load_runs.new.board) c.in-Ok.ensures.reads c.read_older.ensures.board.pages c.in-Ok-read_newest.ensures.reads c.in-Ok-load_runs.ensures.reads

pub returns-in-Err-load_runs-clause-err : goal.returns-in-Err-load_runs-clause-err
returns-in-Err-load_runs-clause-err g c =
    let shape = c.args.found.now.root.shape in
    let root = c.args.found.now.root.root in
    let old = g.B.Nand.state c.args.board.now in
    let first = g.B.Nand.state c.read_older.new.board in
    let second = g.B.Nand.state c.read_newest.new.board in
    let newest = newest_here shape root old c.read_older.new.into c.in-Ok.ensures.held first
    (_, c.in-Ok.ensures.reads) c.read_older.ensures.board.pages c.read_newest.new.into c.in-Ok-read_newest.epoch c.in-Ok-read_newest.ensures.held in
    runs_refuse shape root old c.read_older.new.into c.read_newest.new.into c.in-Ok-read_newest.epoch c.in-Ok.ensures.held newest second
    (reads_both old first second (_, c.in-Ok.ensures.reads) (_, c.in-Ok-read_newest.ensures.reads)) (c.read_newest.ensures.board.pages ∙ c.read_older.ensures.board.pages)
    (g.B.Nand.state c.load_runs.new.board) c.in-Err-load_runs.error c.in-Err-load_runs.ensures.err

pub returns-in-Err-read_newest-clause-err : goal.returns-in-Err-read_newest-clause-err
returns-in-Err-read_newest-clause-err g c =
    rw c.from.ensures (newest_refuses c.args.found.now.root.shape c.args.found.now.root.root (g.B.Nand.state c.args.board.now) c.read_older.new.into c.in-Ok.ensures.held
    (g.B.Nand.state c.read_older.new.board) (_, c.in-Ok.ensures.reads) c.read_older.ensures.board.pages
    (g.B.Nand.state c.read_newest.new.board) c.in-Err-read_newest.error c.in-Err-read_newest.ensures.err)

pub returns-in-Err-clause-err : goal.returns-in-Err-clause-err
returns-in-Err-clause-err g c = rw c.from-in-Err.ensures
    (older_refuses c.args.found.now.root.shape c.args.found.now.root.root (g.B.Nand.state c.args.board.now) (g.B.Nand.state c.read_older.new.board) c.in-Err.error c.in-Err.ensures.err)

pub returns-in-Ok-load_runs-clause-board : goal.returns-in-Ok-load_runs-clause-board
returns-in-Ok-load_runs-clause-board g c = stays_both c.args.found.now.root.shape _ _ _
    (stays_both c.args.found.now.root.shape _ _ _ c.read_older.ensures.board c.read_newest.ensures.board) c.load_runs.ensures.board

pub returns-in-Err-load_runs-clause-board : goal.returns-in-Err-load_runs-clause-board
returns-in-Err-load_runs-clause-board g c = stays_both c.args.found.now.root.shape _ _ _
    (stays_both c.args.found.now.root.shape _ _ _ c.read_older.ensures.board c.read_newest.ensures.board) c.load_runs.ensures.board

pub returns-in-Err-read_newest-clause-board : goal.returns-in-Err-read_newest-clause-board
returns-in-Err-read_newest-clause-board g c = stays_both c.args.found.now.root.shape _ _ _ c.read_older.ensures.board c.read_newest.ensures.board
