use Rattle.std.proofs.Common.{◌≡◌, ◌+◌, ◌∙◌, refl, sym, subst, ap}
use Rattle.pk_base.specs.Shape.{Shape}
use Rattle.pk_nvme.specs.Seen.{command_of}
use Rattle.pk_nand.{specs.BoardState.shape_of, specs.BoardState.shape_or_none, proofs.Effects.rose_from}
use Rattle.pk_queue.specs.Queue.{bytes_of}
use Rattle.pk_call.specs.Exec.{IsValue}
use Rattle.pk_serve.{proofs.Commanding.stops_before, proofs.Commanding.stops_in, proofs.Commanding.serves_all, proofs.Commanding.stops_behind, proofs.Blaming.quiet-then, proofs.Blaming.quiet-flash}
use Rattle.pk_serve.{proofs.Skipping.stands_value, proofs.Reaching.reaches_stands, proofs.Skipping.went_value, proofs.Finishing.keeps_record, proofs.Finishing.breaks_record, proofs.Counting.unworn_few}
use Rattle.pk_serve.proofs.Parting.{faulted-then, runs_on-then}
use Rattle.pk_serve.proofs.step.serve_one.Goals as goal

pub returns-in-Err-clause-stops : goal.returns-in-Err-clause-stops
returns-in-Err-clause-stops g c = λ v is. stops_before _ _ _ (bytes_of c.args.held.now.heads) c.args.entry.now.before c.in-Err.end _ c.in-Err.ensures.fails.breaks

pub returns-then-outcome-clause-stops : goal.returns-then-outcome-clause-stops
returns-then-outcome-clause-stops g c = λ v is.
    let e = c.exec-outcome.ensures in
    let T : Shape → Type 0 = λ s. IsValue s c.args.entry.now.request.opcode c.args.entry.now.request.size c.args.value.now v in
    let same : c.args.shape.now ≡ shape_of (g.B.Nand.state c.prepare.new.board) = sym (ap shape_or_none (c.in-Ok.ensures.rest.takes.shape ∙ c.requires.has_room.shape_is)) in
    stops_in _ _ _ _ _ (bytes_of c.args.held.now.heads) _ c.args.entry.now.before _ c.in-Ok.ensures.keeps
    (went_value _ _ _ (g.D.Engine.sight c.exec-outcome.new.self) (command_of c.args.entry.now.request c.args.value.now) v
    (subst T same is) _ (e.cuts_stopped c.if-outcome.true)) e.counts.up _ e.counts.reads (e.counts.stop c.if-outcome.true) e.counts.calls

pub returns-in-Ok-finish-clause-serves : goal.returns-in-Ok-finish-clause-serves
returns-in-Ok-finish-clause-serves g c = λ v is.
    let e = c.exec-outcome.ensures in
    let T : Shape → Type 0 = λ s. IsValue s c.args.entry.now.request.opcode c.args.entry.now.request.size c.args.value.now v in
    let same : c.args.shape.now ≡ shape_of (g.B.Nand.state c.prepare.new.board) = sym (ap shape_or_none (c.in-Ok.ensures.rest.takes.shape ∙ c.requires.has_room.shape_is)) in
    let has = subst T same is in
    serves_all _ _ _ _ _ (bytes_of c.args.held.now.heads) _ c.args.entry.now.before _ c.in-Ok.ensures.keeps _ _ _ (c.args.entry.now.before + 1) refl
    (reaches_stands _ _ _ _ _ _ _ (stands_value _ _ _ _ (command_of c.args.entry.now.request c.args.value.now) v has _ _ (e.answers.stands c.if-outcome.false)))
    (stands_value _ _ _ _ (command_of c.args.entry.now.request c.args.value.now) v has _ _ (e.answers.stands c.if-outcome.false))
    e.leaves.rest e.counts.up (λ h. e.counts.unread h c.if-outcome.false) (λ h. (e.counts.sound h).1) (e.counts.no_stop c.if-outcome.false) e.counts.reads
    (unworn_few (g.B.Nand.state c.args.board.now) (g.B.Nand.state c.prepare.new.board) c.requires.can_serve.unworn c.in-Ok.ensures.rest.installs) e.counts.installs e.counts.calls _ _ _
    (keeps_record (g.B.Nand.state c.exec-outcome.new.board) (g.B.Nand.state c.finish.new.board) (g.D.Engine.sight c.exec-outcome.new.self)
    (g.D.Engine.sight c.finish.new.drive) (bytes_of c.prepare.new.held.heads) (bytes_of c.finish.new.held.heads) _ _
    (c.head_of-head.ensures c.exec-outcome.new.into e.answers.fits) c.in-Ok-finish.ensures.keeps)

pub returns-in-Err-finish-clause-stops : goal.returns-in-Err-finish-clause-stops
returns-in-Err-finish-clause-stops g c = λ v is.
    let e = c.exec-outcome.ensures in
    let T : Shape → Type 0 = λ s. IsValue s c.args.entry.now.request.opcode c.args.entry.now.request.size c.args.value.now v in
    let same : c.args.shape.now ≡ shape_of (g.B.Nand.state c.prepare.new.board) = sym (ap shape_or_none (c.in-Ok.ensures.rest.takes.shape ∙ c.requires.has_room.shape_is)) in
    let has = subst T same is in
    stops_behind _ _ _ _ _ (bytes_of c.args.held.now.heads) _ c.args.entry.now.before _ c.in-Ok.ensures.keeps _ _ _ (c.args.entry.now.before + 1) refl
    (reaches_stands _ _ _ _ _ _ _ (stands_value _ _ _ _ (command_of c.args.entry.now.request c.args.value.now) v has _ _ (e.answers.stands c.if-outcome.false)))
    (stands_value _ _ _ _ (command_of c.args.entry.now.request c.args.value.now) v has _ _ (e.answers.stands c.if-outcome.false))
    e.leaves.rest e.counts.up (λ h. e.counts.unread h c.if-outcome.false) (λ h. (e.counts.sound h).1) (e.counts.no_stop c.if-outcome.false) e.counts.reads
    (unworn_few (g.B.Nand.state c.args.board.now) (g.B.Nand.state c.prepare.new.board) c.requires.can_serve.unworn c.in-Ok.ensures.rest.installs) e.counts.installs e.counts.calls _ _
    (breaks_record (g.B.Nand.state c.exec-outcome.new.board) (g.B.Nand.state c.finish.new.board) (g.D.Engine.sight c.exec-outcome.new.self) (bytes_of c.prepare.new.held.heads) _ _ c.in-Err-finish.end
    (c.head_of-head.ensures c.exec-outcome.new.into e.answers.fits) c.in-Err-finish.ensures.fails.breaks)

pub returns-then-outcome-clause-fault : goal.returns-then-outcome-clause-fault
returns-then-outcome-clause-fault g c = record { fault = tt; cause = rose_from c.in-Ok.ensures.runs_on.quiet.stop (c.exec-outcome.ensures.counts.stop c.if-outcome.true) }

pub returns-in-Ok-finish-clause-runs_on : goal.returns-in-Ok-finish-clause-runs_on
returns-in-Ok-finish-clause-runs_on g c =
    let e = c.exec-outcome.ensures in
    runs_on-then (g.D.Engine.agrees c.finish.new.drive) _ _ _ _
    (quiet-then _ _ _ c.in-Ok.ensures.runs_on.quiet (quiet-flash _ _ e.leaves.rest (e.counts.no_stop c.if-outcome.false))) c.in-Ok-finish.ensures.runs_on

pub returns-in-Err-finish-clause-fault : goal.returns-in-Err-finish-clause-fault
returns-in-Err-finish-clause-fault g c =
    let e = c.exec-outcome.ensures in
    faulted-then (g.B.Nand.state c.args.board.now) (g.B.Nand.state c.exec-outcome.new.board) (g.B.Nand.state c.finish.new.board) c.in-Err-finish.end
    (quiet-then _ _ _ c.in-Ok.ensures.runs_on.quiet (quiet-flash _ _ e.leaves.rest (e.counts.no_stop c.if-outcome.false))) c.in-Err-finish.ensures.fails.fault

pub returns-in-Err-clause-fault : goal.returns-in-Err-clause-fault
returns-in-Err-clause-fault g c = c.in-Err.ensures.fails.fault
