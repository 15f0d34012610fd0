use Rattle.pk_background.proofs.Whole.{may_settle_merge, merged_settled, merged_idle, merged_failed}
use Rattle.pk_background.proofs.emptying.merge_whole.Goals as goal

pub settle-requires : goal.settle-requires
settle-requires g c = record { may = may_settle_merge _ _ _ _ c.requires (rw (c.in-Ok-Worked.is, c.in-Ok-Worked.field-0-is) at c.merge_once.ensures.once) }

pub returns-in-Ok : goal.returns-in-Ok
returns-in-Ok g c = merged_settled _ _ _ _ c.requires (rw (c.in-Ok-Worked.is, c.in-Ok-Worked.field-0-is) at c.merge_once.ensures.once) _ _ _ (rw c.in-Ok.is at c.settle.ensures)

pub returns-in-Err-settle : goal.returns-in-Err-settle
returns-in-Err-settle g c = merged_settled _ _ _ _ c.requires (rw (c.in-Ok-Worked.is, c.in-Ok-Worked.field-0-is) at c.merge_once.ensures.once) _ _ _ (rw c.in-Err-settle.is at c.settle.ensures)

pub returns-in-Ok-Idle : goal.returns-in-Ok-Idle
returns-in-Ok-Idle g c = merged_idle _ _ _ _ c.requires (rw (c.in-Ok-Idle.is, c.in-Ok-Idle.field-0-is) at c.merge_once.ensures.once)

pub returns-in-Err : goal.returns-in-Err
returns-in-Err g c = merged_failed _ _ _ _ c.requires _ (rw c.in-Err.is at c.merge_once.ensures.once)
