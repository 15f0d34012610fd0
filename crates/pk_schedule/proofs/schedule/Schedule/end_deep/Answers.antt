use Rattle.pk_pool.specs.Blocks.{freed}
use Rattle.std.proofs.Common.{◌∙◌, rules}
use Rattle.pk_schedule.proofs.schedule.Schedule.end_deep.Goals as goal

pub returns-clause-ends : goal.returns-clause-ends
returns-clause-ends g c = record {
  then_levels = c.exchange.new.levels;
  then_arena = c.exchange.new.arena;
  then_pool = freed c.exchange.new.pool;
  then_job = c.exchange.new.self.job;
  last_job = c.exchange-2.new.self.job;
  first = c.exchange.ensures.exchanged;
  second = c.exchange-2.ensures.exchanged;
  over = search rules;
}

pub returns-clause-counted : goal.returns-clause-counted
returns-clause-counted g c o = c.exchange-2.ensures.counted o ∙ c.exchange.ensures.counted o
