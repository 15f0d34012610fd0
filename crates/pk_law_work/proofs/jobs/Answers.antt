use Rattle.pk_law_work.proofs.Paging.{merge_within}
use Rattle.pk_law_work.proofs.jobs.Goals as goal

pub returns-clause-merge : goal.returns-clause-merge
returns-clause-merge c = merge_within
