use Rattle.pk_law_work.proofs.Within.{work_most, merging_most}
use Rattle.pk_law_work.proofs.bounds.Goals as goal

pub returns-clause-work : goal.returns-clause-work
returns-clause-work c = work_most

pub returns-clause-merging : goal.returns-clause-merging
returns-clause-merging c = merging_most
