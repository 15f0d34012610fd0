use Rattle.std.proofs.Common.{◌≡◌}
use Rattle.pk_dump.proofs.root.tell_roots.Given as goal

abbrev pub invariant-loop-at : goal.invariant-loop-at
invariant-loop-at l = l.root.shape ≡ l.shape
