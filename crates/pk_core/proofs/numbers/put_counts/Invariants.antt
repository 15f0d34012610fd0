use Rattle.std.{proofs.Common.◌≡◌, proofs.Common.◌*◌, proofs.Common.length, proofs.Common.take, specs.List.flat_map}
use Rattle.pk_base.specs.Fields.{u32}
use Rattle.pk_core.proofs.numbers.put_counts.Given as goal

abbrev pub invariant-loop-i : goal.invariant-loop-i
invariant-loop-i l = record {
  bytes : take (4 * l.i) l.into ≡ flat_map u32 (take l.i l.numbers);
  size : length l.into ≡ length l.initial.into;
}
