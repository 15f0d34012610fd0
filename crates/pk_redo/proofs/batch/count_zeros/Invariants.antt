use Rattle.std.proofs.Common.{◌≡◌, ◌-◌, ◌≤◌}
use Rattle.pk_redo.specs.Bytes.{zeros_in}
use Rattle.pk_redo.proofs.batch.count_zeros.Given as goal

abbrev pub invariant-loop-done : goal.invariant-loop-done
invariant-loop-done l = (l.count ≡ zeros_in l.bytes l.at l.done) × (l.count ≤ l.done) × (l.done ≤ l.len)

abbrev pub decreases-loop-done : goal.decreases-loop-done
decreases-loop-done l = l.len - l.done
