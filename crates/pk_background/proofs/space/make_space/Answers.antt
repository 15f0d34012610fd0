use Rattle.std.proofs.Common.{arith, Err}
use Rattle.pk_law_work.specs.Calls.{commit_calls, room_roots}
use Rattle.pk_background.{proofs.ReadSteps.running_stopped, proofs.Steps.shape_committed, proofs.Steps.leaves_committed, specs.Costs.reclaim_calls}
use Rattle.pk_background.proofs.Callings.{few_within, few_commit, spends_still}
use Rattle.pk_background.proofs.Stored.{space_committed, space_made, space_spends, space_not_made, stays_made, most_committed}
use Rattle.pk_parts.{proofs.Stopping.stopped_kept, proofs.Halves.may_commit}
use Rattle.pk_background.proofs.space.make_space.Goals as goal

pub commit_pending-requires : goal.commit_pending-requires
commit_pending-requires g c = record { may = may_commit c.args.parts.now (g.B.Nand.state c.args.board.now) c.requires.may }

pub reclaim_for-requires-clause-may : goal.reclaim_for-requires-clause-may
reclaim_for-requires-clause-may g c =
    let e = c.in-Ok.ensures in space_committed c.args.count c.args.parts.now _ _ _ c.requires.may (shape_committed c.args.parts.now c.commit_pending.new.self e.rest) e.step e.none c.requires.number

pub reclaim_for-requires-clause-some : goal.reclaim_for-requires-clause-some
reclaim_for-requires-clause-some g c = most_committed c.args.count c.args.parts.now c.commit_pending.new.self (shape_committed c.args.parts.now _ c.in-Ok.ensures.rest) c.requires.some

pub returns-in-Ok-clause-step : goal.returns-in-Ok-clause-step
returns-in-Ok-clause-step g c =
    let e = c.in-Ok.ensures in
    space_made c.args.count c.args.parts.now _ _ _ c.requires.may (shape_committed c.args.parts.now c.commit_pending.new.self e.rest) e.step _ _ _ c.reclaim_for.ensures.step

pub returns-in-Ok-clause-stays : goal.returns-in-Ok-clause-stays
returns-in-Ok-clause-stays g c =
    let e = c.in-Ok.ensures in
    stays_made c.reclaim_for.result c.args.parts.now _ c.reclaim_for.new.parts (leaves_committed c.args.parts.now c.commit_pending.new.self e.rest) e.moves c.reclaim_for.ensures.stays

pub returns-in-Err-clause-step : goal.returns-in-Err-clause-step
returns-in-Err-clause-step g c = space_not_made _ _ _ _ _ c.in-Err.ensures.step

pub returns-in-Err-clause-none : goal.returns-in-Err-clause-none
returns-in-Err-clause-none g c = running_stopped Unit _ c.in-Err.fault c.in-Err.ensures.step.stopped

pub returns-in-Err-clause-stays : goal.returns-in-Err-clause-stays
returns-in-Err-clause-stays g c = running_stopped Unit _ c.in-Err.fault c.in-Err.ensures.step.stopped

pub returns-in-Ok-clause-spends : goal.returns-in-Ok-clause-spends
returns-in-Ok-clause-spends g c =
    let a = c.args.parts.now in
    let e = c.commit_pending.ensures in
    space_spends c.args.count a _ _ _ c.requires.may (shape_committed a c.commit_pending.new.self c.in-Ok.ensures.rest) c.in-Ok.ensures.step _
    (spends_still commit_calls 0 _ _ (few_commit a.log.pending _ _ e.program e.idle) e.step.roots_few) c.reclaim_for.ensures.spends

pub returns-in-Err-clause-spends : goal.returns-in-Err-clause-spends
returns-in-Err-clause-spends g c =
    let a = c.args.parts.now in
    let e = c.commit_pending.ensures in
    spends_still (reclaim_calls a.log.shape) room_roots _ _ (few_within commit_calls (reclaim_calls a.log.shape) _ _ (omega arith) (few_commit a.log.pending _ _ e.program e.idle)) e.step.roots_few

pub returns-in-Err-clause-stops : goal.returns-in-Err-clause-stops
returns-in-Err-clause-stops g c = stopped_kept (Err c.in-Err.fault) c.args.parts.now c.commit_pending.new.self c.in-Err.ensures.kept
