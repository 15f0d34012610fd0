use Rattle.std.proofs.Common.{◌≡◌, take}
use Rattle.pk_pool.specs.Blocks.{used_by}
use Rattle.pk_pool.proofs.pool.count_used.Given as goal

abbrev pub invariant-loop-state : goal.invariant-loop-state
invariant-loop-state l = l.count ≡ used_by l.owner (take l.state-index l.states)
