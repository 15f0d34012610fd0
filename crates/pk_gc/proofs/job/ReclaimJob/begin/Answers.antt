use Rattle.std.proofs.Common.{◌<◌, sym, subst}
use Rattle.pk_base.specs.Shape.{Shape, data_blocks}
use Rattle.pk_plan.specs.declared.owner.Owner.TheVariants.{Values as for_values}
use Rattle.pk_pool.specs.Blocks.{used_by}
use Rattle.pk_gc.proofs.Victims.{below_quota}
use Rattle.pk_gc.proofs.job.ReclaimJob.begin.Goals as goal

pub take-requires-clause-below : goal.take-requires-clause-below
take-requires-clause-below g c =
    let full = c.requires.may.full in
    let used = used_by for_values c.args.pool.now.states in
    subst (λ (s : Shape). used < data_blocks s) (sym c.requires.may.shape_is) (below_quota c.args.self.now.shape used full.is_shape full.full)
