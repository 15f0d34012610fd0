use Rattle.std.proofs.Common.{◌≤◌, ◌+◌}
use Rattle.pk_background.proofs.Filling.{AllPinnedBelow}
use Rattle.pk_background.proofs.fill.lacks_frames.Given as goal

abbrev pub invariant-loop-level : goal.invariant-loop-level
invariant-loop-level g l = record {
  least : 1 ≤ l.level;
  below : AllPinnedBelow l.parts.levels.runs l.level;
}
