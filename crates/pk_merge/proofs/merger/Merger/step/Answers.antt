use Rattle.pk_merge.proofs.Stepping.{acts_on}
use Rattle.pk_merge.proofs.merger.Merger.step.Goals as goal

pub gather-requires : goal.gather-requires
gather-requires g c =
    let acted = acts_on c.args.inputs.now.source.now c.args.inputs.now.target.now c.args.inputs.now.pins c.args.out.now c.args.self.now c.args.pool.now
    _ c.args.arena.now _ _ c.known.ensures.shape c.known.ensures.kept c.requires.running.2 _ _ _ _ _ _ c.next-next.ensures.tells c.in-Ok.ensures.acts in
    (_, _, _, _, acted.merging.cursors)

pub returns-in-Ok-clause-steps : goal.returns-in-Ok-clause-steps
returns-in-Ok-clause-steps g c = record {
  next = c.next-next.result;
  between = c.act.new.self;
  tells = c.next-next.ensures.tells;
  acts = c.in-Ok.ensures.acts;
  gathers = rw c.level.ensures at c.gather.ensures.goes_on;
  stuck = c.gather.ensures.stuck;
}
