use Rattle.pk_background.proofs.Finishing.{some_settle, may_settle, root_or}
use Rattle.pk_background.proofs.pair.finish_root.Goals as goal

pub finish-requires-clause-may : goal.finish-requires-clause-may
finish-requires-clause-may g c =
    let r = rw (← c.parts.view_is) at c.requires in
    let some = some_settle _ (g.B.Nand.state c.args.board.now) r.may r.half in
    (c.parts.inside.levels, c.parts.inside.arena, _, some.1.top, some.1.found, some.0, may_settle _ (g.B.Nand.state c.args.board.now).pages some.0 some.1)

pub returns : goal.returns
returns g c =
    let r = rw (← c.parts.view_is) at c.requires in
    let e = c.finish.ensures in
    rw (← c.parts.view_is)
    (root_or c.finish.result _ c.finish.new.log c.finish.new.pool _ _ r.may r.half e.calls.ready e.settles e.broken e.stopped e.stops e.sound e.program e.number e.same_log)
