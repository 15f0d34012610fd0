use Rattle.std.proofs.Common.{◌≡◌, arith}
use Rattle.pk_base.specs.Shape.{charge}
use Rattle.pk_scan.{proofs.Checking.Checking-refused, proofs.Checking.Checking-end, proofs.Checking.refused_rest, proofs.Boards.stays_reads, proofs.Boards.stays_ready_behind}
use Rattle.pk_scan.proofs.values.check_value.Goals as goal

pub returns-in-Err-clause-err : goal.returns-in-Err-clause-err
returns-in-Err-clause-err g c =
    let less = rw c.charge-i-end.ensures.value at c.loop-i-test.true in
    Checking-refused _ _ _ c.args.shape.now c.args.key.now c.args.place c.loop-i.i c.in-Err.error less c.loop-i.invariant.checking c.in-Err.ensures.err

pub returns-clause-value : goal.returns-clause-value
returns-clause-value g c =
    let all : c.loop-i.i ≡ charge c.args.shape.now c.args.place.len = omega (arith, c.loop-i-test.false, c.loop-i.auto.i-end, c.charge-i-end.ensures.value) in
    let checking = rw all at c.loop-i.invariant.checking in
    Checking-end _ _ c.args.shape.now c.args.key.now c.args.place checking

pub returns-in-Err-clause-board : goal.returns-in-Err-clause-board
returns-in-Err-clause-board g c =
    let less = rw c.charge-i-end.ensures.value at c.loop-i-test.true in
    stays_ready_behind c.args.shape.now (g.B.Nand.state c.args.board.now) (g.B.Nand.state c.check_page.new.board)
    (refused_rest (g.B.Nand.state c.args.board.now) (g.B.Nand.state c.check_page.new.board) c.args.shape.now c.args.key.now c.args.place c.in-Err.error
    (Checking-refused _ _ _ c.args.shape.now c.args.key.now c.args.place c.loop-i.i c.in-Err.error less c.loop-i.invariant.checking c.in-Err.ensures.err)) c.requires.ready

pub returns-clause-board : goal.returns-clause-board
returns-clause-board g c = stays_reads c.args.shape.now (g.B.Nand.state c.args.board.now) (g.B.Nand.state c.loop-i.board) (c.loop-i.i, c.loop-i.invariant.checking.board) c.requires.ready
