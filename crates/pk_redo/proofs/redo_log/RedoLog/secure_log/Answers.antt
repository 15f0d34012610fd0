use Rattle.pk_redo.proofs.Keeping.{still_now}
use Rattle.pk_redo.proofs.redo_log.RedoLog.secure_log.Goals as goal

pub returns-in-Ok-clause-keeps : goal.returns-in-Ok-clause-keeps
returns-in-Ok-clause-keeps g c = λ clean kept now k same.
    let all = c.in-Ok.ensures.done (c.settle.ensures.clean clean) kept now k in
    still_now g.D.Disk c.settle.new.self kept now (c.settle.ensures.keeps clean now all same)
