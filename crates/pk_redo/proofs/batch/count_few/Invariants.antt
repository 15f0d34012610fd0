use Rattle.std.proofs.Common.{◌≡◌, ◌≤◌}
use Rattle.pk_redo.specs.Bytes.{zeros_in}
use Rattle.pk_redo.proofs.batch.count_few.Given as goal

abbrev pub invariant-loop-i : goal.invariant-loop-i
invariant-loop-i l = (l.count ≡ zeros_in l.bytes l.at l.i) × (l.count ≤ l.i)
