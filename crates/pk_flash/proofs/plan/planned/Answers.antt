use Rattle.std.{proofs.Common.arith, proofs.lemmas.Grind.common_steps}
use Rattle.pk_flash.proofs.PlanLemmas.{planned-append}
use Rattle.pk_flash.proofs.plan.planned.Goals as goal

pub loop-next-preserved : goal.loop-next-preserved
loop-next-preserved c = grind (arith, common_steps, planned-append)
