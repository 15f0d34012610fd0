use Rattle.std.proofs.Common.{rules}
use Rattle.pk_log.{proofs.Saying.says_ended, proofs.Saying.says_broken}
use Rattle.pk_log.proofs.FreezeStepping.{is_freezing, installed_by, goes_on_by, former_owned, log_frozen, log_goes_on}
use Rattle.pk_log.proofs.log.Log.freeze_step.Goals as goal

pub freeze_step-requires-clause-may : goal.freeze_step-requires-clause-may
freeze_step-requires-clause-may g c =
    let s = rw (← c.self.view_is) at c.requires.can in
    (s.0, s.1, s.2, rw c.len-has_entries.ensures.len (is_freezing _ c.args.pool.now c.args.job.now (g.B.Nand.state c.args.board.now) s.0 s.1 s.2 s.3))

pub retire_epoch-requires : goal.retire_epoch-requires
retire_epoch-requires g c =
    let s = rw (← c.self.view_is) at c.requires.can in
    let old = g.B.Nand.state c.args.board.now in
    let once = rw c.len-has_entries.ensures.len at c.in-Ok-true.ensures.step in
    let is = is_freezing _ c.args.pool.now c.args.job.now old s.0 s.1 s.2 s.3 in
    let done = installed_by _ _ _ _ _ _ _ _ _ _ _ _ once.step.ended s.0 s.1 s.2 is c.in-Ok-true.field-0-test in
    let owned = former_owned _ c.args.pool.now c.args.job.now old s.0 s.1 s.2 s.3 c.freeze_step.new.pool _ _ _ (g.B.Nand.state c.freeze_step.new.board) done
    c.newest-former.result c.newest-former.ensures in
    record { first = owned.first; second = owned.second; different = owned.different }

pub returns-in-Ok-true-clause-step : goal.returns-in-Ok-true-clause-step
returns-in-Ok-true-clause-step g c =
    let old = g.B.Nand.state c.args.board.now in
    let new = g.B.Nand.state c.freeze_step.new.board in
    let given = rw c.len-has_entries.ensures.len at c.retire_epoch.ensures.left in
    let starts = rw (c.start-self-inside.ensures.started, c.shape-shape.ensures, c.epoch.ensures, c.freeze_step.ensures.root_shape) at c.start-self-inside.ensures.fits in
    rw (← c.self.view_is) (says_ended _ _ _ _ _ _ old new _ _ (λ ended top found m can.
    let is = is_freezing _ c.args.pool.now c.args.job.now old top found m can in
    let done = installed_by _ _ _ _ _ _ _ _ _ _ _ _ ended top found m is c.in-Ok-true.field-0-test in
    log_frozen _ c.args.pool.now c.args.job.now old top found m can c.freeze_step.new.pool c.freeze_step.new.root.root c.freeze_step.new.installer c.freeze_step.new.job new done
    c.newest-former.result c.retire_epoch.new.pool c.newest-former.ensures given (c.retire_epoch.ensures.fits new.pages) c.newest-blocks.result c.newest-blocks.ensures starts _ (search rules))
    (rw c.len-has_entries.ensures.len at c.in-Ok-true.ensures.step))

pub returns-in-Ok-false-clause-step : goal.returns-in-Ok-false-clause-step
returns-in-Ok-false-clause-step g c =
    let old = g.B.Nand.state c.args.board.now in
    let new = g.B.Nand.state c.freeze_step.new.board in
    rw (← c.self.view_is) (says_ended _ _ _ _ _ _ old new _ _ (λ ended top found m can.
    let is = is_freezing _ c.args.pool.now c.args.job.now old top found m can in
    let on = goes_on_by _ _ _ _ _ _ _ _ _ _ _ _ ended top found m is c.in-Ok-false.field-0-test in
    log_goes_on _ c.args.pool.now c.args.job.now old top found m can c.freeze_step.new.pool c.freeze_step.new.root c.freeze_step.new.installer c.freeze_step.new.job new on _ (search rules))
    (rw c.len-has_entries.ensures.len at c.in-Ok-false.ensures.step))

pub returns-in-Err-clause-step : goal.returns-in-Err-clause-step
returns-in-Err-clause-step g c =
    let old = g.B.Nand.state c.args.board.now in
    let new = g.B.Nand.state c.freeze_step.new.board in
    rw (← c.self.view_is) (says_broken _ _ _ _ _ _ old new _
    (λ broken top found m can. broken top found m (is_freezing _ c.args.pool.now c.args.job.now old top found m can)) (rw c.len-has_entries.ensures.len at c.in-Err.ensures.step))
