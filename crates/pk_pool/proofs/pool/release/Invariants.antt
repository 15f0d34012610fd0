use Rattle.std.proofs.Common.{◌≡◌, ◌++◌, take, drop, map}
use Rattle.pk_pool.specs.Blocks.{freed_state}
use Rattle.pk_pool.proofs.pool.release.Given as goal

abbrev pub invariant-loop-state : goal.invariant-loop-state
invariant-loop-state g l = l.state-items ≡ map freed_state (take l.state-index l.initial.state-items) ++ drop l.state-index l.initial.state-items
