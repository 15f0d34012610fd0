use Rattle.std.proofs.Common.{refl}
use Rattle.pk_walk.{specs.declared.position.Position.TheVariants.First, specs.declared.position.Position.TheVariants.From, specs.Walking.seen_tops, proofs.Keeping.none_kept}
use Rattle.pk_walk.proofs.Walks.{start_walk, start_left, start_none, start_skips_none}
use Rattle.pk_walk.proofs.walk.Walk.start.Goals as goal

pub invariant_of-self : goal.invariant_of-self
invariant_of-self g c = search (start_walk, none_kept, c.self.inside.shape, c.self.inside.cursors, c.restart.new.self)

pub invariant_of-self-in-None : goal.invariant_of-self-in-None
invariant_of-self-in-None g c = search (start_walk, none_kept, c.self.inside.shape, c.self.inside.cursors, c.restart.new.self, c.restart.ensures)

pub returns-in-Some-clause-left : goal.returns-in-Some-clause-left
returns-in-Some-clause-left g c flash arena runs active frozen ess stand = search (start_left, c.self.inside.cursors, c.restart.ensures)

pub returns-in-Some-clause-none_read : goal.returns-in-Some-clause-none_read
returns-in-Some-clause-none_read g c runs = start_none c.restart.new.self c.self.inside.cursors c.restart.ensures runs

pub returns-in-None-clause-left : goal.returns-in-None-clause-left
returns-in-None-clause-left g c flash arena runs active frozen ess stand = search (start_left, c.self.inside.cursors, c.restart.ensures)

pub returns-in-None-clause-none_read : goal.returns-in-None-clause-none_read
returns-in-None-clause-none_read g c runs = start_none c.restart.new.self c.self.inside.cursors c.restart.ensures runs

pub returns-in-None-clause-skips_none : goal.returns-in-None-clause-skips_none
returns-in-None-clause-skips_none g c none = start_skips_none
    (record { shape = c.self.inside.shape; position = First; tops = seen_tops c.new-self-inside.result; cursors = c.restart.new.self }) c.self.inside.cursors c.restart.ensures refl
