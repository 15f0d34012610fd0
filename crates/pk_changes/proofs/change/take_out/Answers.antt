use Rattle.std.{proofs.Common.arith, specs.FinMap.remove}
use Rattle.pk_changes.{specs.Changes.StaysBetween, specs.Changes.MayTake, proofs.Quieted.put_reads_none, proofs.Programming.take_idle}
use Rattle.pk_changes.proofs.Following.{can_take_after, step_takes_later, stays_then, stays_failed, failed_before}
use Rattle.pk_parts.{specs.Moves.KeepsAll, specs.Staying.Stays, proofs.Staying.stays_then as stays_twice, proofs.Stopping.fails_stopped}
use Rattle.pk_background.{proofs.ReadSteps.running_ok, proofs.Halted.fails_running, proofs.Halted.fails_step}
use Rattle.pk_background.proofs.Callings.{spends_still, spends_within, spends_then}
use Rattle.pk_changes.proofs.change.take_out.Goals as goal

pub make_room-requires-clause-may : goal.make_room-requires-clause-may
make_room-requires-clause-may g c = record { ready = c.requires.can.ready; stands = (c.requires.can.may.0, c.requires.can.may.1.stands) }

pub take_with_room-requires-clause-can : goal.take_with_room-requires-clause-can
take_with_room-requires-clause-can g c =
    let e = c.in-Ok.ensures in
    can_take_after e.leaves e.pending e.step c.args.key c.args.old c.requires.can

pub returns-in-Ok-clause-step : goal.returns-in-Ok-clause-step
returns-in-Ok-clause-step g c =
    let e = c.in-Ok.ensures in
    step_takes_later e.leaves e.pending e.step c.take_with_room.result c.take_with_room.new.parts (g.B.Nand.state c.take_with_room.new.board)
    c.requires.can.ready c.args.key c.args.old c.take_with_room.ensures.step

pub returns-in-Ok-clause-stays : goal.returns-in-Ok-clause-stays
returns-in-Ok-clause-stays g c =
    let e = c.take_with_room.ensures in
    stays_then c.take_with_room.result c.args.parts.now c.make_room.new.parts c.take_with_room.new.parts c.in-Ok.ensures.leaves e.step.stopped e.stays

pub returns-in-Ok-clause-moves : goal.returns-in-Ok-clause-moves
returns-in-Ok-clause-moves g c =
    let a = c.args.parts.now in
    let b = c.make_room.new.parts in
    let d = c.take_with_room.new.parts in
    let e = c.take_with_room.ensures in
    running_ok (Stays b d) (Stays a d) c.take_with_room.result (stays_twice a b d c.in-Ok.ensures.moves) e.step.stopped e.moves

pub returns-in-Ok-clause-programs : goal.returns-in-Ok-clause-programs
returns-in-Ok-clause-programs g c =
    take_idle c.take_with_room.result c.args.parts.now c.make_room.new.parts (g.B.Nand.state c.args.board.now) (g.B.Nand.state c.make_room.new.board)
    (g.B.Nand.state c.take_with_room.new.board) c.args.key c.in-Ok.ensures.idle c.take_with_room.ensures.programs

pub returns-in-Ok-clause-quiet : goal.returns-in-Ok-clause-quiet
returns-in-Ok-clause-quiet g c = put_reads_none c.take_with_room.result c.args.parts.now c.make_room.new.parts (g.B.Nand.state c.args.board.now)
    (g.B.Nand.state c.make_room.new.board) (g.B.Nand.state c.take_with_room.new.board) c.args.key c.in-Ok.ensures.idle c.take_with_room.ensures.step.works

pub returns-in-Err-clause-step : goal.returns-in-Err-clause-step
returns-in-Err-clause-step g c =
    fails_step c.in-Err.fault c.fail.result c.make_room.new.parts c.fail.new.self c.fail.ensures.same c.fail.ensures.rest _ _
    (λ e. KeepsAll c.args.parts.now e (g.B.Nand.state c.args.board.now) (g.B.Nand.state c.make_room.new.board)) _ _ _ _ _
    (failed_before c.in-Err.fault c.args.parts.now c.make_room.new.parts _ (g.B.Nand.state c.args.board.now)
    (g.B.Nand.state c.make_room.new.board) c.requires.can.ready c.in-Err.ensures.step (λ m. remove m c.args.key)
    (λ shape m. MayTake c.args.parts.now shape (g.B.Nand.state c.args.board.now).pages m c.args.key c.args.old) (λ shape m may. may.stands))

pub returns-in-Err-clause-stays : goal.returns-in-Err-clause-stays
returns-in-Err-clause-stays g c =
    fails_running c.in-Err.fault c.fail.result c.make_room.new.parts c.fail.new.self c.fail.ensures.same c.fail.ensures.rest (λ x. StaysBetween c.args.parts.now x)
    (stays_failed c.in-Err.fault c.args.parts.now c.make_room.new.parts c.requires.can.few c.in-Err.ensures.leaves c.in-Err.ensures.pending)

pub returns-in-Ok-clause-spends : goal.returns-in-Ok-clause-spends
returns-in-Ok-clause-spends g c =
    let e = c.take_with_room.ensures in
    spends_then _ _ _ _ 0 _ _ _ _ (omega arith) (omega arith) c.make_room.ensures.spends (spends_still _ 0 _ _ e.calls e.step.roots_few)

pub returns-in-Err-clause-spends : goal.returns-in-Err-clause-spends
returns-in-Err-clause-spends g c = spends_within _ _ _ _ _ _ (omega arith) (omega arith) c.make_room.ensures.spends

pub returns-in-Err-clause-moves : goal.returns-in-Err-clause-moves
returns-in-Err-clause-moves g c = fails_running c.in-Err.fault c.fail.result c.make_room.new.parts c.fail.new.self c.fail.ensures.same c.fail.ensures.rest
    (λ x. Stays c.args.parts.now x) c.in-Err.ensures.moves

pub returns-in-Err-clause-stops : goal.returns-in-Err-clause-stops
returns-in-Err-clause-stops g c = fails_stopped c.in-Err.fault c.fail.result c.make_room.new.parts c.fail.new.self c.fail.ensures.same c.fail.ensures.rest
