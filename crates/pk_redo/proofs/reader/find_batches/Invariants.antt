use Rattle.std.proofs.Common.{◌≡◌, ◌+◌, ◌-◌, ◌≤◌, length, slice_index}
use Rattle.pk_redo.specs.declared.batch.TheConstants.{FIRST_BATCH, OPEN}
use Rattle.pk_redo.specs.Log.{Walks, bodies}
use Rattle.pk_redo.proofs.reader.find_batches.Given as goal

abbrev pub invariant-loop-len : goal.invariant-loop-len
invariant-loop-len l = record { «open» : slice_index l.log 0 ≡ OPEN; walks : Walks l.log FIRST_BATCH (bodies l.log l.found.items) l.at; within : l.at ≤ length l.log + FIRST_BATCH }

abbrev pub decreases-loop-len : goal.decreases-loop-len
decreases-loop-len l = length l.log + FIRST_BATCH - l.at
