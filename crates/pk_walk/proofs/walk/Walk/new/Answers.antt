use Rattle.std.proofs.Common.{refl}
use Rattle.pk_walk.{specs.declared.position.Position.TheVariants.First, specs.Walking.seen_tops, proofs.Walks.start_all, proofs.Walks.start_none, proofs.Walks.start_skips_none}
use Rattle.pk_walk.proofs.walk.Walk.new.Goals as goal

pub returns-clause-left : goal.returns-clause-left
returns-clause-left g c flash arena runs active frozen ess stand =
    start_all (record { shape = c.args.shape; position = First; tops = seen_tops c.new-2.result; cursors = c.in_ok-cursors.cursors })
    c.in_ok-cursors.cursors c.in_ok-cursors.ensures.start c.new-2.ensures refl flash arena runs active frozen ess stand

pub returns-clause-none_read : goal.returns-clause-none_read
returns-clause-none_read g c runs = start_none c.in_ok-cursors.cursors c.in_ok-cursors.cursors c.in_ok-cursors.ensures.start runs

pub returns-clause-skips_none : goal.returns-clause-skips_none
returns-clause-skips_none g c =
    start_skips_none (record { shape = c.args.shape; position = First; tops = seen_tops c.new-2.result; cursors = c.in_ok-cursors.cursors }) c.in_ok-cursors.cursors c.in_ok-cursors.ensures.start refl
