use Rattle.std.proofs.Common.{◌≡◌, length}
use Rattle.pk_base.specs.Shape.{Shape}
use Rattle.pk_file.specs.Slots.{pages_of, AllFit, ErasedRow}
use Rattle.pk_file.proofs.logged.clear_slots.Given as goal

abbrev pub invariant-loop-i : goal.invariant-loop-i
invariant-loop-i l = record {
  pages : ErasedRow l.first l.i (pages_of l.initial.slots.items) (pages_of l.slots.items);
  count : length l.slots.items ≡ length l.initial.slots.items;
  fit : (shape : Shape) → AllFit shape l.initial.slots.items → AllFit shape l.slots.items;
}
