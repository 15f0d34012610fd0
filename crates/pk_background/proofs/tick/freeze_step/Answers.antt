use Rattle.std.proofs.Common.{subst}
use Rattle.pk_pool.specs.Blocks.{IsShared}
use Rattle.pk_parts.specs.Parts.{Parts}
use Rattle.pk_background.proofs.MergeTicks.{may_empty, tick_frozen, tick_unfrozen}
use Rattle.pk_background.proofs.tick.freeze_step.Goals as goal

pub freeze_once-requires-clause-may : goal.freeze_once-requires-clause-may
freeze_once-requires-clause-may g c = may_empty _ _ c.requires.may c.requires.whole

pub returns-in-Ok : goal.returns-in-Ok
returns-in-Ok g c =
    let r = c.requires in
    tick_frozen _ _ r.may r.whole _ _ (rw c.in-Ok.is at c.freeze_once.ensures.once) c.in-Ok.ensures.does r.merged r.wanted
    (subst (λ (d : Parts). IsShared d.pool.shape d.pool.states) c.parts.view_is c.known.ensures)

pub returns-in-Err : goal.returns-in-Err
returns-in-Err g c =
    let r = c.requires in
    rw (c.stop.ensures.stopped, c.stop.ensures.value)
    (tick_unfrozen _ _ r.may r.whole c.freeze_once.new.parts _ _ (rw c.in-Err.is at c.freeze_once.ensures.once) c.in-Err.ensures.fails r.merged r.wanted
    (subst (λ (d : Parts). IsShared d.pool.shape d.pool.states) c.parts.view_is c.known.ensures))
