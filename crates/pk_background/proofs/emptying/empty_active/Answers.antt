use Rattle.pk_background.proofs.Emptied.{may_behind, merges_last, freeze_lasts, room_made, no_room_made, room_spends, no_room_spends}
use Rattle.pk_background.proofs.emptying.empty_active.Goals as goal

pub empty_frozen-requires-clause-number : goal.empty_frozen-requires-clause-number
empty_frozen-requires-clause-number g c = merges_last _ _ c.requires.may c.requires.number

pub freeze_log-requires-clause-may : goal.freeze_log-requires-clause-may
freeze_log-requires-clause-may g c = may_behind _ _ _ _ _ c.requires.may c.in-Ok.ensures.leaves.same_shape c.in-Ok.ensures.step

pub freeze_log-requires-clause-number : goal.freeze_log-requires-clause-number
freeze_log-requires-clause-number g c = freeze_lasts _ _ _ _ c.requires.may c.requires.number c.in-Ok.ensures.step

pub returns-in-Ok-clause-step : goal.returns-in-Ok-clause-step
returns-in-Ok-clause-step g c = room_made _ _ _ _ c.requires.may _ _ _ c.in-Ok.ensures.leaves.same_shape c.in-Ok.ensures.step c.freeze_log.ensures.step

pub returns-in-Err-clause-step : goal.returns-in-Err-clause-step
returns-in-Err-clause-step g c = no_room_made _ _ _ _ c.requires.may _ c.in-Err.ensures.step

pub returns-in-Ok-clause-spends : goal.returns-in-Ok-clause-spends
returns-in-Ok-clause-spends g c = room_spends _ c.empty_frozen.new.parts _ _ c.requires.may _ c.in-Ok.ensures.spends c.freeze_log.ensures.spends

pub returns-in-Err-clause-spends : goal.returns-in-Err-clause-spends
returns-in-Err-clause-spends g c = no_room_spends _ c.empty_frozen.new.parts _ _ c.requires.may c.in-Err.ensures.spends
