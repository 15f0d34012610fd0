use Rattle.std.proofs.Common.{arith}
use Rattle.pk_schedule.specs.Index.{index}
use Rattle.pk_background.{proofs.Inside.MergeStep, proofs.Inside.some_work, proofs.Inside.merges_once, proofs.MergeTicks.merge_does, proofs.MergeTicks.merge_fails}
use Rattle.pk_background.proofs.emptying.merge_once.Given as given
use Rattle.pk_background.proofs.emptying.merge_once.Goals as goal
use Rattle.pk_background.proofs.emptying.merge_once.Goals.{After-step}

-- what the step of the schedule did
did : (g : given.Over) (c : After-step g)
    → MergeStep (index c.parts.inside.log c.parts.inside.levels c.parts.inside.arena c.parts.inside.pool c.parts.inside.schedule) (g.B.Nand.state c.args.board.now)
    (index c.step.new.log c.step.new.levels c.step.new.arena c.step.new.pool c.step.new.self) (g.B.Nand.state c.step.new.board) c.step.result
did g c =
    let e = c.step.ensures in
    record {
      idle = e.idle;
      moves = e.moves;
      less = e.less;
      active = e.active;
      running = e.running;
      unmoved = λ was. ((e.unread was).unmoved, (e.unread was).only);
      again = λ was. (e.unread was).again;
      unread = λ was. ((e.unread was).read, (e.unread was).flash);
      broken = e.broken;
      sound = e.sound;
      calls = e.calls.calls;
      rest = e.calls.rest;
      installs = e.calls.installs;
      ready = e.calls.ready;
    }

pub step-requires-clause-may : goal.step-requires-clause-may
step-requires-clause-may g c = some_work _ _ (rw (← c.parts.view_is) at c.requires)

pub returns-clause-once : goal.returns-clause-once
returns-clause-once g c =
    rw (← c.parts.view_is) (merges_once _ _ (rw (← c.parts.view_is) at c.requires) _ _ _ (did g (goal.at.returns-clause-once g c).After-step)
    c.read_count.ensures.faults (omega (arith, c.read_count.ensures.value, c.read_count.type_inv)))

pub returns-clause-does : goal.returns-clause-does
returns-clause-does g c =
    let e = c.step.ensures in
    rw (← c.parts.view_is) (merge_does _ _ (rw (← c.parts.view_is) at c.requires) _ _ e.same_freeze _ (did g (goal.at.returns-clause-does g c).After-step) e.works)

pub returns-clause-fails : goal.returns-clause-fails
returns-clause-fails g c =
    rw (← c.parts.view_is) (merge_fails _ _ (rw (← c.parts.view_is) at c.requires) _ _ c.step.ensures.same_freeze _ (did g (goal.at.returns-clause-fails g c).After-step))
