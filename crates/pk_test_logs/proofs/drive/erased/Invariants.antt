use Rattle.std.proofs.Common.{◌≡◌, length}
use Rattle.pk_test_logs.proofs.drive.erased.Given as goal

abbrev pub invariant-loop : goal.invariant-loop
invariant-loop l = length l.cells.items ≡ l.counter
