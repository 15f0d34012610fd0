use Rattle.std.proofs.Common.{arith}
use Rattle.pk_background.proofs.SpaceSteps.{may_reclaim, worked_then, may_end, ended, space_failed, waits_may, waits_number, space_frozen}
use Rattle.pk_background.proofs.space.make_space_once.Goals as goal

pub reclaim_once-requires : goal.reclaim_once-requires
reclaim_once-requires g c = record { may = may_reclaim c.requires.may c.requires.some c.requires.awaits }

pub returns-in-Ok-Worked : goal.returns-in-Ok-Worked
returns-in-Ok-Worked g c =
    let r = c.requires in
    let e = c.reclaim_once.ensures in
    let is = rw c.in-Ok-Worked.field-0-is at c.in-Ok-Worked.ensures.does in
    worked_then r.may r.some r.awaits _ _ e.none e.same_roots e.calls e.rest e.ready
    (omega (arith, c.read_count.ensures.value, c.read_count.type_inv)) c.in-Ok-Worked.ensures.sound is _ _ c.end_commit.result c.end_commit.ensures

pub end_commit-requires : goal.end_commit-requires
end_commit-requires g c =
    let r = c.requires in
    let e = c.reclaim_once.ensures in
    let is = rw c.in-Ok-Worked.field-0-is at c.in-Ok-Worked.ensures.does in
    record {
      may = may_end r.may r.some r.awaits _ _ e.none e.same_roots e.calls e.rest e.ready
          (omega (arith, c.read_count.ensures.value, c.read_count.type_inv)) c.in-Ok-Worked.ensures.sound is;
    }

pub returns-in-Ok-Ended : goal.returns-in-Ok-Ended
returns-in-Ok-Ended g c =
    let r = c.requires in
    let e = c.reclaim_once.ensures in
    ended r.may r.some r.awaits _ _ e.none e.same_roots e.calls e.rest e.ready
    (omega (arith, c.read_count.ensures.value, c.read_count.type_inv)) c.in-Ok-Ended.ensures.sound (rw c.in-Ok-Ended.field-0-is at c.in-Ok-Ended.ensures.does)

pub empty_active-requires-clause-may : goal.empty_active-requires-clause-may
empty_active-requires-clause-may g c =
    let waits = rw c.in-Ok-NeedsFreeze.field-0-is at c.in-Ok-NeedsFreeze.ensures.does in
    waits_may c.requires.may c.requires.some c.requires.awaits _ _ waits

pub empty_active-requires-clause-number : goal.empty_active-requires-clause-number
empty_active-requires-clause-number g c =
    let waits = rw c.in-Ok-NeedsFreeze.field-0-is at c.in-Ok-NeedsFreeze.ensures.does in
    waits_number c.requires.may c.requires.some c.requires.awaits _ _ waits

pub returns-in-Ok-NeedsFreeze : goal.returns-in-Ok-NeedsFreeze
returns-in-Ok-NeedsFreeze g c =
    let r = c.requires in
    let e = c.empty_active.ensures in
    let waits = rw c.in-Ok-NeedsFreeze.field-0-is at c.in-Ok-NeedsFreeze.ensures.does in
    space_frozen r.may r.some r.awaits _ _ _ _ c.empty_active.result waits e.step e.spends e.room e.none e.leaves e.moves

pub returns-in-Err : goal.returns-in-Err
returns-in-Err g c =
    let r = c.requires in
    let e = c.reclaim_once.ensures in
    space_failed r.may r.some r.awaits _ _ e.none e.same_roots e.calls e.rest e.ready
    (omega (arith, c.read_count.ensures.value, c.read_count.type_inv)) c.in-Err.fault c.read_count.ensures.faults c.in-Err.ensures.fails
