use Rattle.pk_parts.{proofs.Halves.may_commit, proofs.Stopping.stopped_kept, proofs.Staying.stays_same}
use Rattle.pk_background.{proofs.Steps.none_step, proofs.Callings.few_same, proofs.Callings.few_commit}
use Rattle.std.proofs.Common.{refl}
use Rattle.pk_changes.proofs.Programming.{full_ok}
use Rattle.pk_changes.proofs.committing.commit_if_full.Goals as goal

pub commit_pending-requires : goal.commit_pending-requires
commit_pending-requires g c = record { may = may_commit c.args.parts.now (g.B.Nand.state c.args.board.now) c.requires.may }

pub returns-else-pending-entries-clause-step : goal.returns-else-pending-entries-clause-step
returns-else-pending-entries-clause-step g c = none_step c.args.parts.now 0 (g.B.Nand.state c.args.board.now) tt c.requires.may.ready

pub returns-else-pending-entries-clause-moves : goal.returns-else-pending-entries-clause-moves
returns-else-pending-entries-clause-moves g c = stays_same _ _ refl

pub returns-then-pending-entries-clause-full : goal.returns-then-pending-entries-clause-full
returns-then-pending-entries-clause-full g c = full_ok c.commit_pending.result c.args.parts.now _ _ c.requires.may.stands c.commit_pending.ensures.programs

pub returns-then-pending-entries-clause-calls : goal.returns-then-pending-entries-clause-calls
returns-then-pending-entries-clause-calls g c =
    let e = c.commit_pending.ensures in
    few_commit c.args.parts.now.log.pending (g.B.Nand.state c.args.board.now) (g.B.Nand.state c.commit_pending.new.board) e.program e.idle

pub returns-else-pending-entries-clause-calls : goal.returns-else-pending-entries-clause-calls
returns-else-pending-entries-clause-calls g c = few_same _ (g.B.Nand.state c.args.board.now) _ refl

pub returns-then-pending-entries-clause-stops : goal.returns-then-pending-entries-clause-stops
returns-then-pending-entries-clause-stops g c = stopped_kept c.commit_pending.result c.args.parts.now c.commit_pending.new.self c.commit_pending.ensures.kept
