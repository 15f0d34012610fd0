use Rattle.std.proofs.Common.{refl, sym, ◌∙◌, arith}
use Rattle.pk_compact.proofs.FreezeStepping.{took_step, take_broken, epoch_least, newest_two, can_prepare_at, erase_step, erase_broken, can_install, root_step, root_broken}
use Rattle.pk_compact.{specs.declared.freezing.FreezeJob.TheVariants.HasOne, specs.declared.freezing.FreezeJob.TheVariants.HasTwo, proofs.NextRoot.programs_then}
use Rattle.pk_compact.proofs.freezing.freeze_step.Goals as goal

pub follow-requires-clause-epoch : goal.follow-requires-clause-epoch
follow-requires-clause-epoch g c =
    epoch_least c.known.ensures c.requires.ready c.requires.may c.in-HasTwo.first c.in-HasTwo.second c.in-HasTwo.is

pub follow-requires-clause-newest : goal.follow-requires-clause-newest
follow-requires-clause-newest g c =
    newest_two c.known.ensures c.requires.ready c.requires.may c.in-HasTwo.first c.in-HasTwo.second c.in-HasTwo.is

pub prepare_root-requires-clause-can : goal.prepare_root-requires-clause-can
prepare_root-requires-clause-can g c =
    can_prepare_at c.known.ensures c.requires.ready c.requires.may c.in-HasTwo.first c.in-HasTwo.second c.in-HasTwo.is c.shape.result.now c.shape.ensures

pub install_root-requires-clause-can : goal.install_root-requires-clause-can
install_root-requires-clause-can g c =
    can_install c.known.ensures c.requires.ready c.requires.may c.in-HasTwo.first c.in-HasTwo.second c.in-HasTwo.is c.follow.new.root c.follow.ensures

pub install_root-requires-clause-programs : goal.install_root-requires-clause-programs
install_root-requires-clause-programs g c = programs_then c.args.installer.now c.requires.may.3.whole (sym c.erases.ensures ∙ c.if-erases.false)

pub returns-in-Ok-clause-step : goal.returns-in-Ok-clause-step
returns-in-Ok-clause-step g c =
    took_step c.known.ensures c.requires.ready c.requires.may (rw c.in-Idle.is (omega arith)) c.in-Ok.first c.take_block.new.pool (g.B.Nand.state c.take_block.new.board)
    c.in-Ok.ensures.taken c.in-Ok.ensures.spare c.in-Ok.ensures.counted c.take_block.ensures.fits c.take_block.ensures.ready (HasOne c.in-Ok.first) (rw c.in-Idle.is refl)

pub returns-in-Err-clause-step : goal.returns-in-Err-clause-step
returns-in-Err-clause-step g c =
    take_broken c.known.ensures c.requires.ready c.requires.may c.take_block.new.pool c.args.root.now c.args.installer.now c.args.job.now
    (g.B.Nand.state c.take_block.new.board) c.in-Err.fault c.in-Err.ensures.stopped c.in-Err.ensures.failed c.take_block.ensures.ready

pub returns-in-Ok-take_block-clause-step : goal.returns-in-Ok-take_block-clause-step
returns-in-Ok-take_block-clause-step g c =
    took_step c.known.ensures c.requires.ready c.requires.may (rw c.in-HasOne.is (omega arith)) c.in-Ok-take_block.second c.take_block-in-HasOne.new.pool
    (g.B.Nand.state c.take_block-in-HasOne.new.board) c.in-Ok-take_block.ensures.taken c.in-Ok-take_block.ensures.spare c.in-Ok-take_block.ensures.counted
    c.take_block-in-HasOne.ensures.fits c.take_block-in-HasOne.ensures.ready (HasTwo c.in-HasOne.first c.in-Ok-take_block.second) (rw c.in-HasOne.is refl)

pub returns-in-Err-take_block-clause-step : goal.returns-in-Err-take_block-clause-step
returns-in-Err-take_block-clause-step g c =
    take_broken c.known.ensures c.requires.ready c.requires.may c.take_block-in-HasOne.new.pool c.args.root.now c.args.installer.now c.args.job.now
    (g.B.Nand.state c.take_block-in-HasOne.new.board) c.in-Err-take_block.fault c.in-Err-take_block.ensures.stopped c.in-Err-take_block.ensures.failed c.take_block-in-HasOne.ensures.ready

pub returns-in-Ok-prepare_root-clause-step : goal.returns-in-Ok-prepare_root-clause-step
returns-in-Ok-prepare_root-clause-step g c =
    erase_step c.known.ensures c.requires.ready c.requires.may c.in-HasTwo.first c.in-HasTwo.second c.in-HasTwo.is c.shape.result.now
    c.shape.ensures c.prepare_root.new.installer (g.B.Nand.state c.prepare_root.new.board) (sym c.erases.ensures ∙ c.if-erases.true) c.in-Ok-prepare_root.ensures.step

pub returns-in-Err-prepare_root-clause-step : goal.returns-in-Err-prepare_root-clause-step
returns-in-Err-prepare_root-clause-step g c =
    erase_broken c.known.ensures c.requires.ready c.requires.may c.in-HasTwo.first c.in-HasTwo.second c.in-HasTwo.is c.shape.result.now
    c.shape.ensures c.args.pool.now c.args.root.now c.prepare_root.new.installer c.args.job.now
    (g.B.Nand.state c.prepare_root.new.board) c.in-Err-prepare_root.fault c.in-Err-prepare_root.ensures.step

pub returns-in-Ok-install_root-clause-step : goal.returns-in-Ok-install_root-clause-step
returns-in-Ok-install_root-clause-step g c =
    root_step c.known.ensures c.requires.ready c.requires.may c.in-HasTwo.first c.in-HasTwo.second c.in-HasTwo.is
    c.follow.new.root c.follow.ensures c.install_root.new.installer (g.B.Nand.state c.install_root.new.board) c.in-Ok-install_root.ensures.step

pub returns-in-Err-install_root-clause-step : goal.returns-in-Err-install_root-clause-step
returns-in-Err-install_root-clause-step g c =
    root_broken c.known.ensures c.requires.ready c.requires.may c.in-HasTwo.first c.in-HasTwo.second c.in-HasTwo.is c.follow.new.root c.follow.ensures
    c.args.pool.now c.follow.new.root c.install_root.new.installer c.args.job.now (g.B.Nand.state c.install_root.new.board) c.in-Err-install_root.fault c.in-Err-install_root.ensures.step
