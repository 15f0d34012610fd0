use Rattle.std.proofs.Common.{arith}
use Rattle.pk_wordrun.proofs.Generating.{unfinished_commit, generated_all}
use Rattle.pk_wordrun.proofs.workload.serve_workload.Goals as goal

pub returns-in-Ok-commit_group-clause-served : goal.returns-in-Ok-commit_group-clause-served
returns-in-Ok-commit_group-clause-served g c = λ m holds.
    let k = c.in-Ok-commit_group.ensures in
    generated_all _ _ _ _ _ _ _ _ _ (c.in-Ok.ensures.served m holds) (g.B.Nand.state c.commit_group.new.board) (g.D.Engine.sight c.commit_group.new.drive) k.keeps k.none

pub returns-in-Err-commit_group-clause-fails : goal.returns-in-Err-commit_group-clause-fails
returns-in-Err-commit_group-clause-fails g c = λ m holds.
    unfinished_commit _ _ _ _ _ _ _ _ _ (c.in-Ok.ensures.served m holds) c.args.count (g.B.Nand.state c.commit_group.new.board) (omega arith) c.in-Err-commit_group.ensures.stops

pub serve_turns-requires-clause-running : goal.serve_turns-requires-clause-running
serve_turns-requires-clause-running g c = record { agrees = (c.requires.fits.ready c.requires.runs).agreed; runs = c.requires.runs }

pub serve_turns-requires-clause-none : goal.serve_turns-requires-clause-none
serve_turns-requires-clause-none g c = (c.requires.fits.ready c.requires.runs).none
