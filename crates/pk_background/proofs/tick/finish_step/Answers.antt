use Rattle.std.proofs.Common.{subst}
use Rattle.pk_pool.specs.Blocks.{IsShared}
use Rattle.pk_parts.specs.Parts.{Parts}
use Rattle.pk_background.proofs.HalfTicks.{may_finish, half_advances, half_stops}
use Rattle.pk_background.proofs.tick.finish_step.Goals as goal

pub finish_half-requires : goal.finish_half-requires
finish_half-requires g c = record { may = may_finish _ _ c.requires.may c.requires.half }

pub returns-in-Ok : goal.returns-in-Ok
returns-in-Ok g c =
    half_advances _ _ c.requires.may c.requires.half _ _ (subst (λ (d : Parts). IsShared d.pool.shape d.pool.states) c.parts.view_is c.known.ensures) (rw c.in-Ok.is at c.finish_half.ensures)

pub returns-in-Err : goal.returns-in-Err
returns-in-Err g c =
    let failed = rw c.in-Err.is at c.finish_half.ensures in
    rw (c.stop.ensures.stopped, c.stop.ensures.value)
    (half_stops _ _ c.requires.may c.requires.half c.finish_half.new.parts _ (subst (λ (d : Parts). IsShared d.pool.shape d.pool.states) c.parts.view_is c.known.ensures) failed.1 failed.2)
