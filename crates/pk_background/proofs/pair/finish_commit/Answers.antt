use Rattle.pk_background.{proofs.Ending.some_end, proofs.Ending.commit_ended, proofs.Ending.commit_failed, proofs.pair.finish_commit.Goals.in-Ok, proofs.pair.finish_commit.Goals.in-Err}
use Rattle.pk_reclaim.specs.Space.{reclaim_parts}
use Rattle.pk_background.proofs.pair.finish_commit.Goals as goal

pub reclaim_step-requires-clause-may : goal.reclaim_step-requires-clause-may
reclaim_step-requires-clause-may g c = let r = rw (← c.parts.view_is) at c.requires in some_end _ _ r.may r.half

pub returns : goal.returns
returns g c = elim c.match-reclaim_step.branch [
  | in-Ok w ↦ (
      let e = c.reclaim_step.ensures in
      let r = rw (← c.parts.view_is) at c.requires in
      let x = reclaim_parts c.reclaim_step.new.log c.reclaim_step.new.values c.reclaim_step.new.pool c.reclaim_step.new.job in
      rw w.result-is (rw (← c.parts.view_is)
      (commit_ended _ x _ _ r.may r.half e.same_log e.ready e.grows e.same_roots e.rest _ _ w.in-Ok.ensures.does w.in-Ok.ensures.sound e.repeats)))
  | in-Err w ↦ (
      let e = c.reclaim_step.ensures in
      let r = rw (← c.parts.view_is) at c.requires in
      let x = reclaim_parts c.reclaim_step.new.log c.reclaim_step.new.values c.reclaim_step.new.pool c.reclaim_step.new.job in
      rw w.result-is (rw (← c.parts.view_is) (commit_failed _ x _ _ r.may r.half e.same_log e.ready e.grows e.same_roots e.rest w.in-Err.fault _ w.in-Err.is e.broken e.repeats)))
]
