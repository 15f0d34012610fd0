use Rattle.pk_log.{proofs.Merging.can_repeat, proofs.Merging.log_finished, proofs.Saying.says_ended, proofs.Saying.says_broken}
use Rattle.pk_log.proofs.log.Log.finish_pair.Goals as goal

pub repeat_root-requires-clause-can : goal.repeat_root-requires-clause-can
repeat_root-requires-clause-can g c =
    let s = rw (← c.self.view_is) at c.requires.may in
    (s.0, s.1, s.2, can_repeat _ (g.B.Nand.state c.args.board.now).pages s.0 s.1 s.2 s.3)

pub returns-clause-step : goal.returns-clause-step
returns-clause-step g c =
    let old = g.B.Nand.state c.args.board.now in
    let new = g.B.Nand.state c.repeat_root.new.board in
    rw (← c.self.view_is) (says_ended _ _ _ _ _ _ old new _ _
    (λ ended top found m may. log_finished _ old new top found m c.repeat_root.new.installer may (ended top found m (can_repeat _ old.pages top found m may))) c.in-Ok.ensures.step)

pub returns-in-Err-clause-step : goal.returns-in-Err-clause-step
returns-in-Err-clause-step g c =
    let old = g.B.Nand.state c.args.board.now in
    let new = g.B.Nand.state c.repeat_root.new.board in
    rw (← c.self.view_is) (says_broken _ _ _ _ _ _ old new _
    (λ broken top found m may. broken top found m (can_repeat _ old.pages top found m may)) c.in-Err.ensures.step)
