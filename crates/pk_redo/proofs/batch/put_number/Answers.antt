use Rattle.pk_redo.proofs.Numbers.{number_written, torn_number}
use Rattle.pk_redo.proofs.batch.put_number.Goals as goal

pub returns-clause-written : goal.returns-clause-written
returns-clause-written c = number_written _ _ _ _ c.requires c.ranges.number.fits c.put_u32.ensures.front c.put_u32.ensures.back c.put_u32.ensures.len

pub returns-clause-others : goal.returns-clause-others
returns-clause-others c = torn_number _ _ _ _ c.requires c.put_u32.ensures.front c.put_u32.ensures.back c.put_u32.ensures.len
