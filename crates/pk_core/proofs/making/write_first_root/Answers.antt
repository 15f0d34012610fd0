use Rattle.pk_core.{proofs.Formatting.Formed, proofs.Formatting.programs_form, proofs.making.write_first_root.Given.Over}
use Rattle.pk_core.proofs.making.write_first_root.Goals as goal

formed : (g : Over) (c : goal.In-Ok g) → Formed c.args.shape (g.B.Nand.state c.write_pair.new.board).pages c.args.limits.now
formed g c = programs_form (g.B.Nand.state c.args.board.now) (g.B.Nand.state c.write_pair.new.board) c.args.shape c.args.limits.now c.first.new.into
    c.known.ensures c.requires.ready c.requires.erased c.first.ensures.bytes c.first.ensures.grammar c.in-Ok.ensures.ok

pub returns-in-Ok-clause-holds : goal.returns-in-Ok-clause-holds
returns-in-Ok-clause-holds g c = (formed g c).holds

pub returns-in-Ok-clause-newest : goal.returns-in-Ok-clause-newest
returns-in-Ok-clause-newest g c = (formed g c).newest

pub returns-in-Ok-clause-programs : goal.returns-in-Ok-clause-programs
returns-in-Ok-clause-programs g c = rw c.first.ensures.bytes at c.in-Ok.ensures.ok

pub returns-in-Err-clause-err : goal.returns-in-Err-clause-err
returns-in-Err-clause-err g c = rw c.first.ensures.bytes at c.in-Err.ensures.err
