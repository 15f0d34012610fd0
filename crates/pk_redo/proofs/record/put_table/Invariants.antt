use Rattle.std.proofs.Common.{◌≡◌, ℕ, ◌*◌, ◌<◌, length, slice_index}
use Rattle.pk_redo.specs.Record.{state_in, said}
use Rattle.pk_redo.proofs.record.put_table.Given as goal

abbrev pub invariant-loop-i : goal.invariant-loop-i
invariant-loop-i l = record {
  table : (k : ℕ) → k < 4 * l.i → state_in l.batch l.at k ≡ said (slice_index l.states k);
  before : (i : ℕ) → i < l.at → slice_index l.batch i ≡ slice_index l.fn.batch i;
  len : length l.batch ≡ length l.fn.batch;
}
