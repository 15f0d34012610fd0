use Rattle.std.proofs.Common.{◌∙◌}
use Rattle.pk_file.proofs.Logging.{call_reads, call_keeps, keeps_all}
use Rattle.pk_file.proofs.logged.commit_steps.Goals as goal

pub returns-in-Ok-clause-crash : goal.returns-in-Ok-clause-crash
returns-in-Ok-clause-crash g c clean shape start trail least pages k =
    call_reads g.D.Disk shape start trail least c.args.redo.now c.barrier.new.self pages c.barrier.ensures.shape k (λ kept h. c.barrier.ensures.keeps clean kept pages h)

pub returns-in-Ok-clause-keeps : goal.returns-in-Ok-clause-keeps
returns-in-Ok-clause-keeps g c is clean shape start trail least pages k =
    keeps_all g.D.Disk shape start trail least c.args.redo.now c.barrier.new.self pages (c.barrier.ensures.shape ∙ k.same_shape) k (c.in-Ok.ensures.done clean k.kept pages k.keeps)

pub returns-in-Err-clause-crash : goal.returns-in-Err-clause-crash
returns-in-Err-clause-crash g c clean shape start trail least pages k =
    call_reads g.D.Disk shape start trail least c.args.redo.now c.barrier.new.self pages c.barrier.ensures.shape k (λ kept h. c.barrier.ensures.keeps clean kept pages h)

pub returns-in-Ok-clause-failed : goal.returns-in-Ok-clause-failed
returns-in-Ok-clause-failed g c clean shape start trail least pages k =
    call_keeps g.D.Disk shape start trail least c.args.redo.now c.barrier.new.self pages c.barrier.ensures.shape k (λ kept h. c.barrier.ensures.keeps clean kept pages h)

pub returns-in-Err-clause-failed : goal.returns-in-Err-clause-failed
returns-in-Err-clause-failed g c clean shape start trail least pages k =
    call_keeps g.D.Disk shape start trail least c.args.redo.now c.barrier.new.self pages c.barrier.ensures.shape k (λ kept h. c.barrier.ensures.keeps clean kept pages h)
