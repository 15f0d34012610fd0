use Rattle.std.proofs.Common.{◌≡◌, ◌+◌, take, drop}
use Rattle.pk_image.specs.Image.{bad_state}
use Rattle.pk_file.specs.Slots.{state_bytes, AllFit}
use Rattle.pk_file.proofs.slots.slots_of.Given as goal

abbrev pub invariant-loop-i : goal.invariant-loop-i
invariant-loop-i l = record {
  shape : l.reader.shape ≡ l.initial.reader.shape;
  states : state_bytes l.slots.items ≡ take l.i l.states;
  fit : AllFit l.initial.reader.shape l.slots.items;
  bad : bad_state (32 + l.i) (drop l.i l.states) ≡ bad_state 32 l.states;
}
