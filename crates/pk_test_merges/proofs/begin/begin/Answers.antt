use Rattle.std.proofs.Common.{◌+◌, ◌≤◌, refl, subst, arith}
use Rattle.pk_base.specs.Shape.{Shape}
use Rattle.pk_merge.{specs.declared.source.Source.TheVariants.Run, specs.Jobs.pins}
use Rattle.pk_test_merges.{specs.Opened.HasRoom, proofs.Beginning.has_cap, proofs.Beginning.begins_for, proofs.Carried.carried}
use Rattle.pk_test_merges.proofs.begin.begin.Goals as goal

pub returns-clause-runs : goal.returns-clause-runs
returns-clause-runs g c = λ yes flash fits s t.
    let a = c.args in
    let room = subst (λ (s : Shape). HasRoom s a.pool.now a.arena.now) c.shape-shape.ensures (c.if-not-has_room.ensures refl) in
    let few : a.source.now.count + a.target.now.count ≤ 8 = omega arith in
    let some = has_cap a.target.now.shape c.shape-shape.result c.level-level.result c.cap.result c.shape-shape.ensures c.cap.ensures.some c.cap.ensures.value in (
      s.entries,
      t.entries,
      carried a.source _ a.target.now c.begin.new.self a.pool.now flash a.arena.now s.entries t.entries refl
          (c.begin.ensures.runs (Run a.source) a.target.now a.pool.now flash a.arena.now s.entries t.entries
          (begins_for a.target.now.shape c.known.ensures.shape a.pool.now flash a.arena.now a.source a.target.now
          (pins c.begin.new.self) c.level-level.result room fits few some s t a.job.now.merger.shape c.requires.idle.merger)),
    )
