use Rattle.std.proofs.lemmas.Result.{on_ok_weaker}
use Rattle.pk_redo.proofs.Keeping.{still_now}
use Rattle.pk_redo.proofs.redo_log.RedoLog.finish.Goals as goal

pub returns-in-Ok-clause-keeps : goal.returns-in-Ok-clause-keeps
returns-in-Ok-clause-keeps g c = λ clean kept now k same.
    let all = c.in-Ok.ensures.done (c.end_run.ensures.clean clean) kept now k in
    still_now g.D.Disk c.end_run.new.self kept now (c.end_run.ensures.keeps clean now all same)

pub returns-in-Ok-clause-done : goal.returns-in-Ok-clause-done
returns-in-Ok-clause-done g c =
    on_ok_weaker c.end_run.result (λ done clean kept now k same. done clean now (c.in-Ok.ensures.done (c.end_run.ensures.clean clean) kept now k) same) c.end_run.ensures.done
