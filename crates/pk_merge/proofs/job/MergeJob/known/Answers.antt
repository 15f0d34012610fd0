use Rattle.std.proofs.Common.{◌∙◌, ap, subst}
use Rattle.pk_base.specs.Shape.{IsShape}
use Rattle.pk_merge.{specs.Jobs.Job, specs.Jobs.output_of, proofs.Counting.within, proofs.Elsewhere.runs_elsewhere}
use Rattle.pk_merge.proofs.job.MergeJob.known.Goals as goal

pub returns-clause-elsewhere : goal.returns-clause-elsewhere
returns-clause-elsewhere g c source target pool later old new arena es fs e j = record {
  output = j.output;
  same_level = j.same_level;
  running = runs_elsewhere pool later old new e source target _ _ _ arena es fs
      (subst IsShape (ap (λ (x : Job). x.merger.shape) c.self.view_is ∙ j.running.shapes.of_merger) c.known.ensures.shape) j.running;
}

pub returns-clause-within : goal.returns-clause-within
returns-clause-within g c source target = within source target (output_of c.args.self.now) c.args.self.now.merger
