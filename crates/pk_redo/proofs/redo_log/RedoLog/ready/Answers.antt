use Rattle.std.proofs.Common.{◌∙◌}
use Rattle.pk_redo.proofs.Keeping.{still_then, ready_not_ended}
use Rattle.pk_redo.proofs.redo_log.RedoLog.ready.Goals as goal

pub returns-in-Ok-secure_batch-clause-keeps : goal.returns-in-Ok-secure_batch-clause-keeps
returns-in-Ok-secure_batch-clause-keeps g c = λ clean kept now k same.
    let begun = c.begin.new.self in
    let secured = c.secure_batch.new.self in
    let is_ready = c.in-Ok.ensures.ready in
    let clean_2 = c.secure_log.ensures.clean clean in
    let clean_1 = c.secure_batch.ensures.clean clean_2 in
    let second = still_then g.D.Disk begun secured kept now (ready_not_ended _ is_ready) (c.begin.ensures.keeps clean_1 kept now k same)
    (λ some keeps. c.secure_batch.ensures.keeps clean_2 some now keeps) in
    still_then g.D.Disk secured c.secure_log.new.self kept now (ready_not_ended _ (c.in-Ok-secure_batch.ensures.state ∙ is_ready)) second
    (λ some keeps. c.secure_log.ensures.keeps clean some now keeps same)

pub returns-in-Err-secure_batch-clause-keeps : goal.returns-in-Err-secure_batch-clause-keeps
returns-in-Err-secure_batch-clause-keeps g c = λ clean kept now k same.
    still_then g.D.Disk c.begin.new.self c.secure_batch.new.self kept now (ready_not_ended _ c.in-Ok.ensures.ready)
    (c.begin.ensures.keeps (c.secure_batch.ensures.clean clean) kept now k same) (λ some keeps. c.secure_batch.ensures.keeps clean some now keeps)
