use Rattle.pk_schedule.{proofs.Freezing.can_step, proofs.Freezing.moves, proofs.Freezing.freezes, proofs.Freezing.broken, proofs.Calling.calls_one}
use Rattle.pk_schedule.proofs.schedule.Schedule.freeze_once.Goals as goal

pub freeze_step-requires-clause-can : goal.freeze_step-requires-clause-can
freeze_step-requires-clause-can g c =
    let s = rw (← c.self.view_is) at c.requires.may in
    (s.1, s.2, s.3, can_step _ s.0 (g.B.Nand.state c.args.board.now) s.1 s.2 s.3 s.4.may s.4.none_merges)

pub returns-clause-moves : goal.returns-clause-moves
returns-clause-moves g c =
    let none = rw (← c.self.view_is) at c.requires.may.4.none_merges in
    rw (← c.self.view_is) (moves _ none c.known.ensures (g.B.Nand.state c.args.board.now) c.freeze_step.new.self c.freeze_step.new.pool c.freeze_step.new.job
    (g.B.Nand.state c.freeze_step.new.board) c.freeze_step.result c.freeze_step.ensures.step.step)

pub returns-clause-freezes : goal.returns-clause-freezes
returns-clause-freezes g c =
    let may = rw (← c.self.view_is) at c.requires.may in
    rw (← c.self.view_is) (freezes _ may.4.none_merges c.known.ensures (g.B.Nand.state c.args.board.now) c.freeze_step.new.self c.freeze_step.new.pool c.freeze_step.new.job
    (g.B.Nand.state c.freeze_step.new.board) c.freeze_step.result c.freeze_step.ensures.step.step may)

pub returns-clause-broken : goal.returns-clause-broken
returns-clause-broken g c =
    let none = rw (← c.self.view_is) at c.requires.may.4.none_merges in
    rw (← c.self.view_is) (broken _ none c.known.ensures (g.B.Nand.state c.args.board.now) c.freeze_step.new.self c.freeze_step.new.pool c.freeze_step.new.job
    (g.B.Nand.state c.freeze_step.new.board) c.freeze_step.result c.freeze_step.ensures.step.step)

pub returns-clause-calls : goal.returns-clause-calls
returns-clause-calls g c = calls_one _ _ _ _ _ _ c.freeze_step.ensures.step
