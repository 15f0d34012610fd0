use Rattle.pk_background.proofs.MergeTicks.{may_empty, tick_merged, tick_unread, tick_stopped}
use Rattle.pk_background.proofs.tick.merge_step.Goals as goal

pub merge_once-requires : goal.merge_once-requires
merge_once-requires g c = may_empty _ _ c.requires.may c.requires.whole

pub returns-in-Ok-Worked : goal.returns-in-Ok-Worked
returns-in-Ok-Worked g c =
    let is = c.in-Ok-Worked in
    tick_merged _ _ c.requires.may c.requires.whole _ _ (rw (is.is, is.field-0-is) at c.merge_once.ensures.once) (rw is.field-0-is at is.ensures.does)

pub returns-in-Err-Reading : goal.returns-in-Err-Reading
returns-in-Err-Reading g c =
    let is = c.in-Err-Reading in
    tick_unread _ _ c.requires.may c.requires.whole _ _ (rw (is.is, is.field-0-is) at c.merge_once.ensures.once) (rw is.field-0-is at is.ensures.fails)

pub returns-in-Err-Stopped : goal.returns-in-Err-Stopped
returns-in-Err-Stopped g c =
    let is = c.in-Err-Stopped in
    rw (c.stop.ensures.stopped, c.stop.ensures.value)
    (tick_stopped _ _ c.requires.may c.requires.whole c.merge_once.new.parts _ (rw (is.is, is.field-0-is) at c.merge_once.ensures.once) (rw is.field-0-is at is.ensures.fails))
