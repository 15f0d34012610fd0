use Rattle.pk_pool.proofs.Counting.{erased, taken_ready, taken_free, given_back, all_counted, take_pays}
use Rattle.pk_pool.proofs.laws.blocks_not_ready.Goals as goal

pub returns : goal.returns
returns c = record { erased = erased; taken_ready = taken_ready; taken_free = taken_free; given_back = given_back; counted = all_counted; pays = take_pays }
