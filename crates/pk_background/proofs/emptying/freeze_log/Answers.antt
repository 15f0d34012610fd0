use Rattle.pk_background.proofs.Emptied.{ongoing_begin, may_freeze, ongoing_more, ongoing_end, ongoing_failed, ongoing_spends, room_behind}
use Rattle.pk_parts.proofs.Staying.{stays_then}
use Rattle.pk_background.proofs.emptying.freeze_log.Goals as goal

pub freezes-init : goal.freezes-init
freezes-init g c = ongoing_begin _ _ c.requires.may c.requires.none_pending c.requires.none_merges

pub freeze_whole-requires-clause-may : goal.freeze_whole-requires-clause-may
freeze_whole-requires-clause-may g c = may_freeze _ _ _ _ c.requires.may.ready c.freezes.invariant c.requires.number

pub returns-in-Ok-true-clause-step : goal.returns-in-Ok-true-clause-step
returns-in-Ok-true-clause-step g c = ongoing_end _ _ _ _ c.requires.may.ready c.freezes.invariant _ _ _ c.in-Ok-true.ensures

pub returns-in-Ok-true-clause-room : goal.returns-in-Ok-true-clause-room
returns-in-Ok-true-clause-room g c = room_behind _ _ _ _ c.requires.may.ready c.freezes.invariant _ _ _ c.in-Ok-true.field-0-test c.in-Ok-true.ensures

pub returns-in-Ok-true-clause-moves : goal.returns-in-Ok-true-clause-moves
returns-in-Ok-true-clause-moves g c = stays_then _ _ _ c.freezes.invariant.stays c.in-Ok-true.ensures.stays

pub freezes-preserved : goal.freezes-preserved
freezes-preserved g c = ongoing_more _ _ _ _ c.requires.may.ready c.freezes.invariant _ _ _ c.in-Ok-false.field-0-test c.in-Ok-false.ensures

pub returns-in-Err-clause-step : goal.returns-in-Err-clause-step
returns-in-Err-clause-step g c = ongoing_failed _ _ _ _ c.requires.may.ready c.freezes.invariant _ _ _ c.in-Err.ensures

pub returns-in-Ok-true-clause-spends : goal.returns-in-Ok-true-clause-spends
returns-in-Ok-true-clause-spends g c = ongoing_spends _ _ _ _ c.requires.may.ready c.freezes.invariant _ _ _ c.in-Ok-true.ensures

pub returns-in-Err-clause-spends : goal.returns-in-Err-clause-spends
returns-in-Err-clause-spends g c = ongoing_spends _ _ _ _ c.requires.may.ready c.freezes.invariant _ _ _ c.in-Err.ensures
