use Rattle.std.proofs.Common.{◌≡◌, false}
use Rattle.pk_test_engine.proofs.parts.fill.Given as goal

-- no commit of the epoch is half made
abbrev pub invariant-loop-i : goal.invariant-loop-i
invariant-loop-i g l = record {
  whole : l.log.epoch.half ≡ false;
}
