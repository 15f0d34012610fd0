use Rattle.std.proofs.Common.{◌≡◌, ◌∙◌, ◌+◌, refl, arith}
use Rattle.pk_scan.{proofs.Boards.stays_same, proofs.Boards.stays_both, proofs.Exact.runs_exact_next, proofs.Exact.runs_exact_end}
use Rattle.pk_scan.proofs.RootFacts.{counts_four, runs_four}
use Rattle.pk_scan.proofs.RunsHeld.{RunsTo-start, level_may, RunsTo-next, RunsTo-refused, runs_loaded}
use Rattle.pk_scan.proofs.levels.load_runs.Goals as goal

pub loop-place-init : goal.loop-place-init
loop-place-init g c = record {
  runs = RunsTo-start (counts_four c.args.root.now.shape c.args.root.now.root c.requires.may.grammar) (runs_four c.args.root.now.shape c.args.root.now.root c.requires.may.grammar)
      c.requires.may.shape_is refl c.known.ensures.levels.four c.requires.may.page_bytes c.requires.may.free;
  reads = refl;
  board = stays_same c.args.root.now.shape (g.B.Nand.state c.args.board.now) c.requires.ready;
  buffer = c.requires.room;
}

pub load_level-requires-clause-may : goal.load_level-requires-clause-may
load_level-requires-clause-may g c = level_may c.loop-place.invariant.runs c.loop-place-test.true (c.loop-place.place + 1) (omega arith) c.requires.may.grammar

pub loop-place-preserved : goal.loop-place-preserved
loop-place-preserved g c =
    let k = c.loop-place.place in
    let t = c.loop-place.invariant.runs in
    let pages = c.loop-place.invariant.board.pages in
    record {
      runs = RunsTo-next t c.loop-place-test.true (k + 1) (omega arith) c.load_level.new.arena c.load_level.new.levels (rw pages at c.in-Ok.ensures.loaded);
      reads = runs_exact_next c.args.root.now.shape c.args.root.now.root.counts k (g.B.Nand.state c.args.board.now) (g.B.Nand.state c.loop-place.board) (g.B.Nand.state c.load_level.new.board)
          (let four = t.counts_four in omega (arith, four, c.loop-place-test.true)) c.loop-place.invariant.reads c.in-Ok.ensures.reads;
      board = stays_both c.args.root.now.shape _ _ _ c.loop-place.invariant.board c.load_level.ensures.board;
      buffer = c.in-Ok.ensures.buffer ∙ c.loop-place.invariant.buffer;
    }

pub returns-in-Err-clause-err : goal.returns-in-Err-clause-err
returns-in-Err-clause-err g c =
    let pages = c.loop-place.invariant.board.pages in
    RunsTo-refused c.loop-place.invariant.runs c.loop-place-test.true (c.loop-place.place + 1) (omega arith)
    (g.B.Nand.state c.args.board.now) (g.B.Nand.state c.loop-place.board) (g.B.Nand.state c.load_level.new.board) c.in-Err.error (_, c.loop-place.invariant.reads) (rw pages at c.in-Err.ensures.err)

pub returns-clause-loaded : goal.returns-clause-loaded
returns-clause-loaded g c =
    let last : c.loop-place.place ≡ 4 = omega (arith, c.loop-place-test.false, c.loop-place.auto.place-end) in
    runs_loaded c.requires.may.shape_is (rw last at c.loop-place.invariant.runs)

pub returns-in-Err-clause-board : goal.returns-in-Err-clause-board
returns-in-Err-clause-board g c = stays_both c.args.root.now.shape _ _ _ c.loop-place.invariant.board c.load_level.ensures.board

pub returns-clause-reads : goal.returns-clause-reads
returns-clause-reads g c =
    let four = c.loop-place.invariant.runs.counts_four in
    runs_exact_end c.args.root.now.shape c.args.root.now.root.counts c.loop-place.place (g.B.Nand.state c.args.board.now)
    (g.B.Nand.state c.loop-place.board) (omega (arith, four, c.loop-place-test.false)) c.loop-place.invariant.reads
