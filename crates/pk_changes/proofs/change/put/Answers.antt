use Rattle.std.{proofs.Common.◌∙◌, proofs.Common.sym, proofs.Common.ap, proofs.Common.length, proofs.Common.arith, specs.FinMap.insert}
use Rattle.pk_base.specs.Shape.{charge}
use Rattle.pk_parts.{specs.Parts.Parts, specs.Moves.KeepsAll, specs.Staying.Stays, specs.Staying.StaysOrOpens, proofs.Staying.stays_opens, proofs.Staying.opens_put}
use Rattle.pk_parts.proofs.Stopping.{fails_stopped}
use Rattle.pk_changes.{specs.Changes.StaysBetween, specs.Changes.MayPut, proofs.Quieted.put_reads_none, proofs.Programming.put_idle, proofs.StoreCalls.spends_put}
use Rattle.pk_changes.proofs.Following.{can_put_after, still_room, step_puts_later, stays_then, stays_failed, failed_before}
use Rattle.pk_background.{proofs.ReadSteps.running_ok, proofs.ReadSteps.running_failed, proofs.Halted.fails_running, proofs.Halted.fails_step}
use Rattle.pk_background.proofs.Callings.{spends_still, spends_within}
use Rattle.pk_changes.proofs.change.put.Goals as goal

pub make_room-requires-clause-may : goal.make_room-requires-clause-may
make_room-requires-clause-may g c = record { ready = c.requires.can.0.ready; stands = (c.requires.can.0.may.0, c.requires.can.0.may.1.stands) }

pub put_with_room-requires-clause-can : goal.put_with_room-requires-clause-can
put_with_room-requires-clause-can g c =
    let e = c.in-Ok.ensures in (
      can_put_after e.leaves e.pending e.step c.args.key c.args.value.now c.args.old c.requires.can.0,
      c.requires.can.1
          ∙ ap (λ s. charge s (length c.args.value.now)) (sym e.leaves.same_shape),
    )

pub put_with_room-requires-clause-room : goal.put_with_room-requires-clause-room
put_with_room-requires-clause-room g c =
    let e = c.in-Ok.ensures in
    still_room e.leaves e.pending e.step (length c.args.value.now) c.requires.room

pub returns-in-Ok-clause-step : goal.returns-in-Ok-clause-step
returns-in-Ok-clause-step g c =
    let e = c.in-Ok.ensures in
    step_puts_later e.leaves e.pending e.step c.put_with_room.result c.put_with_room.new.parts (g.B.Nand.state c.put_with_room.new.board)
    c.requires.can.0.ready c.args.key c.args.value.now c.args.old c.put_with_room.ensures.step

pub returns-in-Ok-clause-programs : goal.returns-in-Ok-clause-programs
returns-in-Ok-clause-programs g c =
    put_idle c.put_with_room.result c.args.parts.now c.make_room.new.parts (g.B.Nand.state c.args.board.now) (g.B.Nand.state c.make_room.new.board)
    (g.B.Nand.state c.put_with_room.new.board) c.args.key (length c.args.value.now) c.in-Ok.ensures.idle c.put_with_room.ensures.programs

pub returns-in-Ok-clause-quiet : goal.returns-in-Ok-clause-quiet
returns-in-Ok-clause-quiet g c = put_reads_none c.put_with_room.result c.args.parts.now c.make_room.new.parts (g.B.Nand.state c.args.board.now)
    (g.B.Nand.state c.make_room.new.board) (g.B.Nand.state c.put_with_room.new.board) c.args.key c.in-Ok.ensures.idle c.put_with_room.ensures.step.works

pub returns-in-Err-clause-step : goal.returns-in-Err-clause-step
returns-in-Err-clause-step g c =
    fails_step c.in-Err.fault c.fail.result c.make_room.new.parts c.fail.new.self c.fail.ensures.same c.fail.ensures.rest _ _
    (λ e. KeepsAll c.args.parts.now e (g.B.Nand.state c.args.board.now) (g.B.Nand.state c.make_room.new.board)) _ _ _ _ _
    (failed_before c.in-Err.fault c.args.parts.now c.make_room.new.parts _ (g.B.Nand.state c.args.board.now)
    (g.B.Nand.state c.make_room.new.board) c.requires.can.0.ready c.in-Err.ensures.step (λ m. insert m c.args.key c.args.value.now)
    (λ shape m. MayPut c.args.parts.now shape (g.B.Nand.state c.args.board.now).pages m c.args.key c.args.value.now c.args.old) (λ shape m may. may.stands))

pub returns-in-Ok-clause-spends : goal.returns-in-Ok-clause-spends
returns-in-Ok-clause-spends g c =
    let e = c.put_with_room.ensures in
    spends_put _ _ _ _ _ c.in-Ok.ensures.leaves.same_shape (length c.args.value.now) c.make_room.ensures.spends (spends_still _ 0 _ _ e.calls e.step.roots_few)

pub returns-in-Err-clause-spends : goal.returns-in-Err-clause-spends
returns-in-Err-clause-spends g c = spends_within _ _ _ _ _ _ (omega arith) (omega arith) c.make_room.ensures.spends

pub returns-in-Ok-clause-leaves : goal.returns-in-Ok-clause-leaves
returns-in-Ok-clause-leaves g c =
    let a = c.args.parts.now in
    let b = c.make_room.new.parts in
    let d = c.put_with_room.new.parts in
    let e = c.in-Ok.ensures in
    let p = c.put_with_room.ensures in
    let opens = StaysOrOpens a d (charge a.log.shape (length c.args.value.now)) in
    record {
      stays = stays_then c.put_with_room.result a b d e.leaves p.step.stopped p.stays;
      opens = running_ok opens opens c.put_with_room.result (λ is. is) p.step.stopped
          (opens_put c.put_with_room.result a b d (length c.args.value.now) e.moves e.leaves.same_shape (ap (λ (x : Parts). x.values) e.leaves.rest) p.opens);
      noted = p.noted;
      stops = p.stops;
    }

pub returns-in-Err-clause-leaves : goal.returns-in-Err-clause-leaves
returns-in-Err-clause-leaves g c =
    let a = c.args.parts.now in
    let b = c.make_room.new.parts in
    let f = c.fail in
    let count = charge a.log.shape (length c.args.value.now) in
    record {
      stays = fails_running c.in-Err.fault f.result b f.new.self f.ensures.same f.ensures.rest (λ x. StaysBetween a x)
          (stays_failed c.in-Err.fault a b c.requires.can.0.few c.in-Err.ensures.leaves c.in-Err.ensures.pending);
      opens = fails_running c.in-Err.fault f.result b f.new.self f.ensures.same f.ensures.rest (λ x. StaysOrOpens a x count)
          (running_failed Unit Unit (Stays a b) (StaysOrOpens a b count) c.in-Err.fault (stays_opens a b count) c.in-Err.ensures.moves);
      noted = tt;
      stops = fails_stopped c.in-Err.fault f.result b f.new.self f.ensures.same f.ensures.rest;
    }
