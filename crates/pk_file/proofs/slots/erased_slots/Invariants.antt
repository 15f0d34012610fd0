use Rattle.std.proofs.Common.{◌≡◌, length, replicate}
use Rattle.pk_base.specs.Page.{erased}
use Rattle.pk_file.specs.Slots.{pages_of}
use Rattle.pk_file.proofs.slots.erased_slots.Given as goal

abbrev pub invariant-loop-i : goal.invariant-loop-i
invariant-loop-i l = record {
  pages : pages_of l.slots.items ≡ replicate l.i erased;
  count : length l.slots.items ≡ l.i;
}
