use Rattle.std.proofs.Common.{◌∙◌, rules}
use Rattle.pk_pool.specs.Blocks.{freed}
use Rattle.pk_schedule.proofs.schedule.Schedule.end_first.Goals as goal

pub retire_named-requires : goal.retire_named-requires
retire_named-requires g c = let can = c.requires.can in can.then_free _ _ _ _ (c.exchange.ensures.exchanged can.out can.first)

pub returns-clause-ends : goal.returns-clause-ends
returns-clause-ends g c = record {
  then_pool = freed c.exchange.new.pool;
  then_job = c.exchange.new.self.job;
  first = c.exchange.ensures.exchanged;
  freed = c.retire_named.ensures.left;
  pool_fits = c.retire_named.ensures.fits;
  over = search rules;
}

pub returns-clause-counted : goal.returns-clause-counted
returns-clause-counted g c o = c.retire_named.ensures.counted o ∙ c.exchange.ensures.counted o
