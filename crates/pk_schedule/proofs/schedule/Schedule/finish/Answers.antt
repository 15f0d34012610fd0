use Rattle.pk_schedule.{proofs.Calling.calls_one, proofs.Finishing.may_finish, proofs.Finishing.settles_all, proofs.Finishing.breaks_all}
use Rattle.pk_schedule.proofs.schedule.Schedule.finish.Goals as goal

pub finish_pair-requires-clause-may : goal.finish_pair-requires-clause-may
finish_pair-requires-clause-may g c = let s = c.requires.may in (s.3, s.4, s.5, may_finish _ s.2 (g.B.Nand.state c.args.board.now) s.3 s.4 s.5 s.6)

pub returns-clause-settles : goal.returns-clause-settles
returns-clause-settles g c =
    settles_all _ _ c.args.pool.now c.finish_pair.new.pool c.args.self.now c.known.ensures (g.B.Nand.state c.args.board.now)
    (g.B.Nand.state c.finish_pair.new.board) c.finish_pair.ensures.same_log c.finish_pair.result c.finish_pair.ensures.step c.finish_pair.ensures.freed

pub returns-clause-broken : goal.returns-clause-broken
returns-clause-broken g c =
    breaks_all _ _ c.args.pool.now c.finish_pair.new.pool c.args.self.now c.known.ensures (g.B.Nand.state c.args.board.now)
    (g.B.Nand.state c.finish_pair.new.board) c.finish_pair.ensures.same_log c.finish_pair.result c.finish_pair.ensures.step

pub returns-clause-calls : goal.returns-clause-calls
returns-clause-calls g c = calls_one _ _ _ _ _ _ c.finish_pair.ensures.step
