use Rattle.pk_background.proofs.Filling.{may_ready, may_stand, may_arena}
use Rattle.pk_background.proofs.fill.fill_once.Goals as goal

pub fill_step-filled-requires-clause-ready : goal.fill_step-filled-requires-clause-ready
fill_step-filled-requires-clause-ready g c = let may = rw (← c.parts.view_is) at c.requires in may_ready _ _ may.may may.whole may.merged

pub fill_step-filled-requires-clause-stand : goal.fill_step-filled-requires-clause-stand
fill_step-filled-requires-clause-stand g c = let may = rw (← c.parts.view_is) at c.requires in may_stand _ _ may.may may.whole may.merged

pub fill_step-filled-requires-clause-arena : goal.fill_step-filled-requires-clause-arena
fill_step-filled-requires-clause-arena g c = let may = rw (← c.parts.view_is) at c.requires in may_arena _ _ may.may may.whole may.merged
