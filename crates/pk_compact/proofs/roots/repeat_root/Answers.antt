use Rattle.std.proofs.Common.{subst}
use Rattle.pk_base.specs.Shape.{Shape, IsShape}
use Rattle.pk_compact.proofs.AgainRoot.{repeat_grammar, repeat_fits, repeat_step, repeat_program, repeat_roots}
use Rattle.pk_compact.proofs.roots.repeat_root.Goals as goal

pub repeat-requires-clause-grammar : goal.repeat-requires-clause-grammar
repeat-requires-clause-grammar g c =
    let can = c.requires.can in
    repeat_grammar c.args.root.now.shape c.args.root.now.root c.args.installer.now (g.B.Nand.state c.args.board.now).pages can.0 can.1 can.2 can.3

pub repeat-requires-clause-fits : goal.repeat-requires-clause-fits
repeat-requires-clause-fits g c =
    let can = c.requires.can in
    repeat_fits c.args.root.now.shape c.args.root.now.root c.args.installer.now (g.B.Nand.state c.args.board.now).pages can.0 can.1 can.2 can.3

pub returns-clause-step : goal.returns-clause-step
returns-clause-step g c =
    let is_shape = subst (λ (s : Shape). IsShape s) c.shape.ensures c.known.ensures in
    repeat_step c.args.root.now.shape is_shape c.args.root.now.root c.args.installer.now c.repeat.new.self (g.B.Nand.state c.args.board.now)
    (g.B.Nand.state c.repeat.new.board) c.requires.ready c.repeat.ensures.ready c.requires.can c.repeat.ensures.behind
    c.repeat.result c.repeat.ensures.repeats c.repeat.ensures.whole c.repeat.ensures.stopped c.repeat.ensures.failed

pub returns-clause-number : goal.returns-clause-number
returns-clause-number g c =
    let is_shape = subst (λ (s : Shape). IsShape s) c.shape.ensures c.known.ensures in
    repeat_roots c.args.root.now.shape is_shape c.args.root.now.root c.args.installer.now c.repeat.new.self (g.B.Nand.state c.args.board.now)
    (g.B.Nand.state c.repeat.new.board) c.requires.ready c.repeat.ensures.ready c.requires.can c.repeat.ensures.behind
    c.repeat.result c.repeat.ensures.repeats c.repeat.ensures.whole c.repeat.ensures.failed

pub returns-clause-program : goal.returns-clause-program
returns-clause-program g c =
    let is_shape = subst (λ (s : Shape). IsShape s) c.shape.ensures c.known.ensures in
    repeat_program c.args.root.now.shape is_shape c.args.root.now.root c.args.installer.now c.repeat.new.self (g.B.Nand.state c.args.board.now)
    (g.B.Nand.state c.repeat.new.board) c.requires.ready c.repeat.ensures.ready c.requires.can c.repeat.ensures.behind
    c.repeat.result c.repeat.ensures.repeats c.repeat.ensures.failed
