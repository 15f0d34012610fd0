use Rattle.std.proofs.Common.{◌≡◌, ◌-◌, ◌≤◌, ◌++◌, List}
use Rattle.pk_base.specs.Mark.{Mark}
use Rattle.pk_redo.specs.Steps.{AreSteps, step_marks}
use Rattle.pk_redo.proofs.reader.read_body.Given as goal

abbrev pub invariant-loop-at : goal.invariant-loop-at
invariant-loop-at l = record {
  order : l.at ≤ l.to;
  read : (marks : List Mark) × AreSteps l.shape l.log l.from marks l.at × (step_marks l.shape l.log l.steps.items ≡ step_marks l.shape l.log l.fn.steps.items ++ marks);
}

abbrev pub decreases-loop-at : goal.decreases-loop-at
decreases-loop-at l = l.to - l.at
