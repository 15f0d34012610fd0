use Rattle.std.proofs.Common.{◌∙◌}
use Rattle.pk_text.proofs.Turning.{TextAdvances-none, TextAdvances-then, Turns-behind}
use Rattle.pk_text.proofs.record.show_data.Goals as goal

pub loop-left-init : goal.loop-left-init
loop-left-init g c = record { room = c.requires; advances = λ more. TextAdvances-none _ _ _ }

pub loop-left-preserved : goal.loop-left-preserved
loop-left-preserved g c = record {
  room = c.in-Ok.ensures.room ∙ c.loop-left.invariant.room;
  advances = λ more. TextAdvances-then _ _ _ _ _ _ _ _ _ (c.loop-left.invariant.advances more) (c.in-Ok.ensures.advances more);
}

pub returns-in-Err-clause-quits : goal.returns-in-Err-clause-quits
returns-in-Err-clause-quits g c = λ more. Turns-behind _ _ _ _ _ _ _ _ (c.loop-left.invariant.advances more) (c.in-Err.ensures.quits more)
