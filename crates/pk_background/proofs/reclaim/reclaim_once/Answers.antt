use Rattle.pk_reclaim.specs.Space.{reclaim_parts}
use Rattle.pk_background.proofs.Reclaimed.{may_reclaim, does_if, fails_if}
use Rattle.pk_background.proofs.reclaim.reclaim_once.Goals as goal

pub reclaim_step-requires-clause-may : goal.reclaim_step-requires-clause-may
reclaim_step-requires-clause-may g c = may_reclaim _ (g.B.Nand.state c.args.board.now) (rw (← c.parts.view_is) at c.requires).may

pub returns-clause-does : goal.returns-clause-does
returns-clause-does g c =
    let e = c.reclaim_step.ensures in
    let r = rw (← c.parts.view_is) at c.requires in
    let x = reclaim_parts c.reclaim_step.new.log c.reclaim_step.new.values c.reclaim_step.new.pool c.reclaim_step.new.job in
    rw (← c.parts.view_is) (does_if _ x _ _ r.may e.same_log e.ready c.reclaim_step.result e.does)

pub returns-clause-fails : goal.returns-clause-fails
returns-clause-fails g c =
    let e = c.reclaim_step.ensures in
    let r = rw (← c.parts.view_is) at c.requires in
    let x = reclaim_parts c.reclaim_step.new.log c.reclaim_step.new.values c.reclaim_step.new.pool c.reclaim_step.new.job in
    rw (← c.parts.view_is) (fails_if _ x _ _ r.may c.reclaim_step.result e.unread e.broken)
