use Rattle.std.proofs.Common.{inl}
use Rattle.pk_schedule.specs.Index.{index}
use Rattle.pk_background.proofs.Inside.{some_freeze, broken_fails, freeze_first, freeze_breaks, freeze_went, freeze_failed}
use Rattle.pk_background.{proofs.MergeTicks.freeze_does, proofs.emptying.freeze_once.Goals.in-Ok, proofs.emptying.freeze_once.Goals.in-Err}
use Rattle.pk_background.proofs.emptying.freeze_once.Goals as goal

pub freeze_step-requires-clause-may : goal.freeze_step-requires-clause-may
freeze_step-requires-clause-may g c =
    let r = rw (← c.parts.view_is) at c.requires in
    let some = some_freeze _ _ r.may r.none_merges in
    (some.0, some.1, some.2, some.3, inl some.4)

pub returns-clause-does : goal.returns-clause-does
returns-clause-does g c = elim c.match-freeze_step.branch [
  | in-Ok w ↦ (
      let e = c.freeze_step.ensures in
      let r = rw (← c.parts.view_is) at c.requires in
      let first = freeze_first _ _ r.may _ _ w.in-Ok.is w.in-Ok.ensures.turn in
      rw w.result-is (rw (← c.parts.view_is) (freeze_does _ _ r.may _ _ (e.moves first) (e.freezes first) r.none_merges e.calls.ready)))
  | in-Err w ↦ rw w.result-is tt
]

pub returns-clause-fails : goal.returns-clause-fails
returns-clause-fails g c = elim c.match-freeze_step.branch [
  | in-Ok w ↦ rw w.result-is tt
  | in-Err w ↦ (
      let r = rw (← c.parts.view_is) at c.requires in
      rw w.result-is (rw (← c.parts.view_is) (broken_fails _ _ r.may _ (freeze_breaks _ _ r.may _ r.none_merges w.in-Err.ensures.broken))))
]

pub returns-clause-once : goal.returns-clause-once
returns-clause-once g c = elim c.match-freeze_step.branch [
  | in-Ok w ↦ (
      let e = c.freeze_step.ensures in
      let r = rw (← c.parts.view_is) at c.requires in
      let first = freeze_first _ _ r.may _ _ w.in-Ok.is w.in-Ok.ensures.turn in
      rw w.result-is (rw (← c.parts.view_is)
      (freeze_went _ _ r.may _ _ (e.moves first) (e.freezes first) e.same_log w.in-Ok.ensures.sound e.calls.calls e.calls.installs e.calls.ready)))
  | in-Err w ↦ (
      let e = c.freeze_step.ensures in
      let r = rw (← c.parts.view_is) at c.requires in
      let breaks = freeze_breaks _ _ r.may _ r.none_merges w.in-Err.ensures.broken in
      let x = index c.freeze_step.new.log c.parts.inside.levels c.parts.inside.arena c.freeze_step.new.pool c.freeze_step.new.self in
      rw w.result-is (rw (← c.parts.view_is)
      (freeze_failed _ _ r.may x _ w.in-Err.fault e.same_log w.in-Err.ensures.stopped breaks w.in-Err.ensures.stops e.calls.calls e.calls.installs e.calls.ready)))
]
