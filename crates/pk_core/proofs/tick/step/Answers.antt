use Rattle.pk_core.proofs.Advancing.{tells_advanced, settles_advanced}
use Rattle.pk_core.proofs.tick.step.Goals as goal

pub returns-clause-idle : goal.returns-clause-idle
returns-clause-idle g c = tells_advanced c.args.parts.now c.advance.new.parts (g.B.Nand.state c.args.board.now)
    (g.B.Nand.state c.advance.new.board) c.requires.may c.advance.result c.advance.ensures c.known.ensures.shared

pub returns-clause-settles : goal.returns-clause-settles
returns-clause-settles g c = settles_advanced c.args.parts.now c.advance.new.parts (g.B.Nand.state c.args.board.now)
    (g.B.Nand.state c.advance.new.board) c.requires.may c.advance.result c.advance.ensures c.known.ensures.shared
