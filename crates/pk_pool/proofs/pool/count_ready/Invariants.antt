use Rattle.std.{proofs.Common.◌≡◌, proofs.Common.take, specs.Prelude.count_by}
use Rattle.pk_pool.specs.Blocks.{is_ready}
use Rattle.pk_pool.proofs.pool.count_ready.Given as goal

abbrev pub invariant-loop-state : goal.invariant-loop-state
invariant-loop-state l = l.count ≡ count_by is_ready (take l.state-index l.states)
