use Rattle.pk_background.proofs.Emptied.{emptying_begin, may_empty, emptying_more, emptying_idle, emptying_failed, idle_spends, failed_spends}
use Rattle.pk_background.proofs.emptying.empty_frozen.Goals as goal

pub merges-init : goal.merges-init
merges-init g c = emptying_begin _ _ c.requires.may c.requires.none_pending

pub merge_whole-requires : goal.merge_whole-requires
merge_whole-requires g c = may_empty _ _ _ _ c.requires.may.ready c.merges.invariant c.requires.number

pub merges-preserved : goal.merges-preserved
merges-preserved g c = emptying_more _ _ _ _ c.requires.may.ready c.merges.invariant _ _ _ c.in-Ok-Worked.field-0-is c.in-Ok-Worked.ensures

pub returns-in-Ok-Idle-clause-step : goal.returns-in-Ok-Idle-clause-step
returns-in-Ok-Idle-clause-step g c = emptying_idle _ _ _ _ c.requires.may.ready c.merges.invariant _ _ _ c.in-Ok-Idle.field-0-is c.in-Ok-Idle.ensures

pub returns-in-Err-clause-step : goal.returns-in-Err-clause-step
returns-in-Err-clause-step g c = emptying_failed _ _ _ _ c.requires.may.ready c.merges.invariant _ _ _ c.in-Err.ensures

pub returns-in-Ok-Idle-clause-spends : goal.returns-in-Ok-Idle-clause-spends
returns-in-Ok-Idle-clause-spends g c = idle_spends _ _ _ _ c.requires.may.ready c.merges.invariant _ _ _ c.in-Ok-Idle.field-0-is c.in-Ok-Idle.ensures

pub returns-in-Err-clause-spends : goal.returns-in-Err-clause-spends
returns-in-Err-clause-spends g c = failed_spends _ _ _ _ c.requires.may.ready c.merges.invariant _ _ _ c.in-Err.ensures
