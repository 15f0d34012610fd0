use Rattle.std.proofs.Common.{◌≡◌, ◌-◌, ◌≤◌, List, ℕ, ◌∷◌, length, slice_index}
use Rattle.pk_redo.specs.declared.batch.TheConstants.{FIRST_BATCH, OPEN}
use Rattle.pk_redo.specs.Log.{Walks}
use Rattle.pk_redo.specs.Steps.{BodiesSay, step_marks}
use Rattle.pk_redo.proofs.reader.read_steps.Given as goal

abbrev pub invariant-loop-len : goal.invariant-loop-len
invariant-loop-len l = record {
  «open» : slice_index l.log 0 ≡ OPEN;
  within : l.at ≤ length l.log;
  first : List ℕ;
  later : List (List ℕ);
  walks : Walks l.log FIRST_BATCH (first ∷ later) l.at;
  says : BodiesSay l.shape later (step_marks l.shape l.log l.steps.items);
}

abbrev pub decreases-loop-len : goal.decreases-loop-len
decreases-loop-len l = length l.log - l.at
