use Rattle.std.proofs.Common.{refl, true, subst}
use Rattle.pk_pool.specs.Blocks.{IsShared}
use Rattle.pk_parts.specs.Parts.{Parts}
use Rattle.pk_background.proofs.ReclaimTicks.{may_reclaim, goes_on, ends_so, unread_so, stops_so, waits_wanted}
use Rattle.pk_background.proofs.tick.reclaim_step.Goals as goal

pub reclaim_once-requires : goal.reclaim_once-requires
reclaim_once-requires g c = record { may = may_reclaim c.args.parts.now (g.B.Nand.state c.args.board.now) c.requires.may c.requires.whole c.requires.wanted }

pub returns-in-Ok-Worked : goal.returns-in-Ok-Worked
returns-in-Ok-Worked g c =
    let r = c.requires in
    let e = c.reclaim_once.ensures in
    goes_on _ _ r.may r.whole r.wanted _ e.calls e.rest e.same_roots e.grows e.ready r.merged r.frozen _
    (rw c.in-Ok-Worked.field-0-is at c.in-Ok-Worked.ensures.does) e.none c.in-Ok-Worked.ensures.sound
    (subst (λ (d : Parts). IsShared d.pool.shape d.pool.states) c.parts.view_is c.known.ensures)

pub returns-in-Ok-Ended : goal.returns-in-Ok-Ended
returns-in-Ok-Ended g c =
    let r = c.requires in
    let e = c.reclaim_once.ensures in
    ends_so _ _ r.may r.whole r.wanted _ e.calls e.rest e.same_roots e.grows e.ready r.merged r.frozen _ (rw c.in-Ok-Ended.field-0-is at c.in-Ok-Ended.ensures.does) e.none c.in-Ok-Ended.ensures.sound
    (subst (λ (d : Parts). IsShared d.pool.shape d.pool.states) c.parts.view_is c.known.ensures)

pub freeze_step-requires : goal.freeze_step-requires
freeze_step-requires g c =
    let r = c.requires in
    let waits = rw c.in-Ok-NeedsFreeze.field-0-is at c.in-Ok-NeedsFreeze.ensures.does in
    record {
      may = rw (waits.same, waits.board) r.may;
      whole = rw waits.same r.whole;
      merged = rw waits.same r.merged;
      wanted = waits_wanted _ _ r.may r.whole r.wanted _ _ waits;
    }

pub returns-in-Ok-NeedsFreeze : goal.returns-in-Ok-NeedsFreeze
returns-in-Ok-NeedsFreeze g c =
    let waits = rw c.in-Ok-NeedsFreeze.field-0-is at c.in-Ok-NeedsFreeze.ensures.does in
    rw (waits.same, waits.board) at c.freeze_step.ensures

pub returns-in-Err-Reading : goal.returns-in-Err-Reading
returns-in-Err-Reading g c =
    let r = c.requires in
    let e = c.reclaim_once.ensures in
    unread_so _ _ r.may r.whole r.wanted _ e.calls e.rest e.same_roots e.grows e.ready r.merged r.frozen _ (rw c.in-Err-Reading.field-0-is at c.in-Err-Reading.ensures.fails)
    (subst (λ (d : Parts). IsShared d.pool.shape d.pool.states) c.parts.view_is c.known.ensures)

pub returns-in-Err-Stopped : goal.returns-in-Err-Stopped
returns-in-Err-Stopped g c =
    let r = c.requires in
    let e = c.reclaim_once.ensures in
    let broken = rw c.in-Err-Stopped.field-0-is at c.in-Err-Stopped.ensures.fails in
    rw (c.stop.ensures.stopped, c.stop.ensures.value)
    (stops_so _ _ r.may r.whole r.wanted _ e.calls e.rest e.same_roots e.grows e.ready r.merged r.frozen (record c.reclaim_once.new.parts { stopped = true }) refl e.none broken.0 broken.1
    (subst (λ (d : Parts). IsShared d.pool.shape d.pool.states) c.parts.view_is c.known.ensures))
