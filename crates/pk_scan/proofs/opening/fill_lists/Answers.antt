use Rattle.std.proofs.Common.{refl, ap}
use Rattle.pk_scan.{proofs.Boards.stays_both, proofs.Whole.root_then_lists, proofs.Whole.lists_refuse, proofs.Whole.finds_lists}
use Rattle.pk_scan.proofs.opening.fill_lists.Goals as goal

pub returns-in-Ok-read_lists-clause-finds : goal.returns-in-Ok-read_lists-clause-finds
returns-in-Ok-read_lists-clause-finds g c =
    let loads = c.in-Ok-read_lists.ensures.loads in (
      loads.0,
      finds_lists _ _ c.args.memory.now.found _ c.read_lists.new.found loads.0 c.read_lists.ensures.kept c.find_root.ensures.shape
          refl refl c.find_root.ensures.board.pages c.in-Ok.ensures.found c.in-Ok.ensures.place c.in-Ok.ensures.grammar
          c.requires.awaits.levels_shape c.len.ensures.bound loads.1,
    )

pub returns-in-Ok-read_lists-clause-reads : goal.returns-in-Ok-read_lists-clause-reads
returns-in-Ok-read_lists-clause-reads g c =
    rw (ap (λ x. x.root.root) c.read_lists.ensures.kept)
    (root_then_lists c.args.memory.now.found.root.shape c.find_root.new.root.root (g.B.Nand.state c.args.board.now) (g.B.Nand.state c.find_root.new.board) (g.B.Nand.state c.read_lists.new.board)
    c.in-Ok.ensures.reads c.find_root.ensures.board.pages (rw c.find_root.ensures.shape at c.in-Ok-read_lists.ensures.reads))

pub returns-in-Err-read_lists-clause-err : goal.returns-in-Err-read_lists-clause-err
returns-in-Err-read_lists-clause-err g c =
    lists_refuse c.args.memory.now.found.root.shape c.in-Ok.page c.find_root.new.root.root (g.B.Nand.state c.args.board.now) c.in-Ok.ensures.found
    (g.B.Nand.state c.find_root.new.board) (_, c.in-Ok.ensures.reads) c.find_root.ensures.board.pages
    (g.B.Nand.state c.read_lists.new.board) c.in-Err-read_lists.error (rw c.find_root.ensures.shape at c.in-Err-read_lists.ensures.err)

pub returns-in-Ok-read_lists-clause-board : goal.returns-in-Ok-read_lists-clause-board
returns-in-Ok-read_lists-clause-board g c = stays_both c.args.memory.now.found.root.shape _ _ _ c.find_root.ensures.board (rw c.find_root.ensures.shape at c.read_lists.ensures.board)

pub returns-in-Err-read_lists-clause-board : goal.returns-in-Err-read_lists-clause-board
returns-in-Err-read_lists-clause-board g c = stays_both c.args.memory.now.found.root.shape _ _ _ c.find_root.ensures.board (rw c.find_root.ensures.shape at c.read_lists.ensures.board)
