use Rattle.std.proofs.Common.{◌≡◌}
use Rattle.pk_test_logs.proofs.drive.DrivePages.erase.Given as goal

abbrev pub invariant-loop-i : goal.invariant-loop-i
invariant-loop-i l = l.self.shape ≡ l.initial.self.shape
