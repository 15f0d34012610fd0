use Rattle.std.proofs.Common.{◌≡◌, ℕ, ◌<◌, get_or, false, slice_index}
use Rattle.pk_redo.specs.Record.{state_in, said}
use Rattle.pk_redo.proofs.record.is_record_of.Given as goal

abbrev pub invariant-loop-k : goal.invariant-loop-k
invariant-loop-k l = (k : ℕ) → k < l.k → get_or l.set k false ≡ false → state_in l.bytes 32 k ≡ said (slice_index l.states k)
