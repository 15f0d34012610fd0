use Rattle.pk_pool.proofs.Leaving.{left_and_freed, freed_set, freed_same, spare_freed, leaving_freed, owned_freed, left_unready, freed_unready}
use Rattle.pk_pool.proofs.laws.blocks_that_leave.Goals as goal

pub returns : goal.returns
returns c = record {
  left = left_and_freed;
  with = freed_set;
  same = freed_same;
  spare = spare_freed;
  leaving = leaving_freed;
  owned = owned_freed;
  left_unready = left_unready;
  freed_unready = freed_unready;
}
