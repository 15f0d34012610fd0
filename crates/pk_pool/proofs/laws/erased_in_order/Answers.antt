use Rattle.pk_pool.proofs.Fitting.{InOrder-erased}
use Rattle.pk_pool.proofs.laws.erased_in_order.Goals as goal

pub returns : goal.returns
returns c = InOrder-erased
