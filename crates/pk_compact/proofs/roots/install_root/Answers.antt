use Rattle.std.proofs.Common.{subst}
use Rattle.pk_base.specs.Shape.{Shape, IsShape}
use Rattle.pk_compact.{proofs.Growing.install_step, proofs.NextRoot.greater}
use Rattle.pk_compact.proofs.roots.install_root.Goals as goal

pub program-requires-clause-grammar : goal.program-requires-clause-grammar
program-requires-clause-grammar g c = c.requires.can.4.follows.grammar

pub program-requires-clause-fits : goal.program-requires-clause-fits
program-requires-clause-fits g c =
    let can = c.requires.can in
    let is_shape = subst (λ (s : Shape). IsShape s) c.shape.ensures c.known.ensures in
    (can.0, can.4.installs, greater c.args.root.now.shape is_shape c.args.root.now.root c.args.installer.now (g.B.Nand.state c.args.board.now) c.requires.ready can.0 can.1 can.2 can.3 can.4)

pub returns-clause-step : goal.returns-clause-step
returns-clause-step g c =
    let is_shape = subst (λ (s : Shape). IsShape s) c.shape.ensures c.known.ensures in
    install_step c.args.root.now.shape is_shape c.args.root.now.root c.args.installer.now c.program.new.self (g.B.Nand.state c.args.board.now)
    (g.B.Nand.state c.program.new.board) c.requires.ready c.program.ensures.ready c.requires.can c.program.ensures.behind
    c.program.result c.program.ensures.installs c.program.ensures.stopped c.program.ensures.failed
