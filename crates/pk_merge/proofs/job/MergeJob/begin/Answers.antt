use Rattle.std.proofs.Common.{refl}
use Rattle.pk_merge.proofs.Starting.{starts}
use Rattle.pk_merge.proofs.job.MergeJob.begin.Goals as goal

pub returns-clause-runs : goal.returns-clause-runs
returns-clause-runs g c source target_run pool flash arena es fs can =
    rw c.start.ensures.begun (record {
      output = refl;
      same_level = refl;
      running = starts source target_run _ c.args.self.now.merger.shape c.args.target c.args.self.now.merger pool flash arena es fs c.start.ensures.shape c.start.ensures.own
          (rw c.start.ensures.begun at can);
    })
