use Rattle.std.proofs.Common.{◌≤◌}
use Rattle.pk_file.specs.Trims.{ZerosFrom}
use Rattle.pk_file.proofs.trimmed.zeros_from.Given as goal

abbrev pub invariant-loop-at : goal.invariant-loop-at
invariant-loop-at l = record {
  within : l.at ≤ l.end;
  zeros : ZerosFrom l.end l.bytes → ZerosFrom l.at l.bytes;
}

abbrev pub decreases-loop-at : goal.decreases-loop-at
decreases-loop-at l = l.at
