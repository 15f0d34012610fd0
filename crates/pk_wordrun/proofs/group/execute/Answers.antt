use Rattle.std.proofs.Common.{refl, sym, ap, subst}
use Rattle.pk_base.specs.Shape.{Shape}
use Rattle.pk_nvme.specs.Seen.{command_of}
use Rattle.pk_nand.specs.BoardState.{shape_or_none}
use Rattle.pk_call.specs.Exec.{IsValue}
use Rattle.pk_serve.{proofs.Counting.unworn_few, proofs.Skipping.stands_value, proofs.Reaching.reaches_stands, proofs.Skipping.went_value}
use Rattle.pk_wordrun.proofs.Grouping.{adds_next, stops_next}
use Rattle.pk_wordrun.proofs.group.execute.Goals as goal

pub returns-clause-adds : goal.returns-clause-adds
returns-clause-adds g c =
    let e = c.exec-outcome.ensures in
    let b = g.B.Nand.state c.args.board.now in
    let T : Shape → Type 0 = λ s. IsValue s c.args.request.now.opcode c.args.request.now.size c.handed.result.now c.args.value.now in
    let has = subst T (sym (ap shape_or_none c.requires.room.shape_is)) c.handed.ensures.value in
    adds_next _ _ _ e.leaves.rest _ (command_of c.args.request.now c.args.value.now) _ _
    (reaches_stands _ _ _ _ _ _ _ (stands_value _ _ _ _ (command_of c.args.request.now c.handed.result.now) c.args.value.now has _ _ (e.answers.stands c.if-outcome.false)))
    (stands_value _ _ _ _ (command_of c.args.request.now c.handed.result.now) c.args.value.now has _ _ (e.answers.stands c.if-outcome.false))
    e.counts.up (λ h. e.counts.unread h c.if-outcome.false) (λ h. (e.counts.sound h).1)
    (e.counts.no_stop c.if-outcome.false) e.counts.reads (unworn_few b b c.requires.can_serve.unworn refl) e.counts.installs

pub returns-then-outcome-clause-stops : goal.returns-then-outcome-clause-stops
returns-then-outcome-clause-stops g c =
    let e = c.exec-outcome.ensures in
    let T : Shape → Type 0 = λ s. IsValue s c.args.request.now.opcode c.args.request.now.size c.handed.result.now c.args.value.now in
    let has = subst T (sym (ap shape_or_none c.requires.room.shape_is)) c.handed.ensures.value in
    stops_next _ _ _ e.leaves.rest (command_of c.args.request.now c.args.value.now)
    (went_value _ _ _ (g.D.Engine.sight c.exec-outcome.new.self) (command_of c.args.request.now c.handed.result.now) c.args.value.now has _ (e.cuts_stopped c.if-outcome.true)) e.counts.up
    (e.counts.stop c.if-outcome.true)
