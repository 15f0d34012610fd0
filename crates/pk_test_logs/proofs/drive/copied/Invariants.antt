use Rattle.std.proofs.Common.{◌≡◌, length}
use Rattle.pk_test_logs.proofs.drive.copied.Given as goal

abbrev pub invariant-loop-i : goal.invariant-loop-i
invariant-loop-i l = length l.copy.items ≡ l.i
