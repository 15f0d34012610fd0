use Rattle.std.proofs.Common.{◌≡◌, length, take}
use Rattle.pk_base.specs.Mark.{after_all}
use Rattle.pk_redo.specs.Steps.{step_marks}
use Rattle.pk_file.specs.Slots.{pages_of, AllFit}
use Rattle.pk_file.proofs.logged.replay_steps.Given as goal

abbrev pub invariant-loop-i : goal.invariant-loop-i
invariant-loop-i l = record {
  pages : pages_of l.slots.items ≡ after_all l.shape (step_marks l.shape l.replay.bytes.items (take l.i l.replay.steps.items)) (pages_of l.initial.slots.items);
  count : length l.slots.items ≡ length l.initial.slots.items;
  fit : AllFit l.shape l.slots.items;
  room : length l.room.items ≡ l.shape.page_bytes;
}
