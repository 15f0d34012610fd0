use Rattle.pk_law_steps.proofs.Counting.{finds, found_in, counts}
use Rattle.pk_law_steps.proofs.lookups.Goals as goal

pub returns-clause-finds : goal.returns-clause-finds
returns-clause-finds c = finds

pub returns-clause-found_in : goal.returns-clause-found_in
returns-clause-found_in c = found_in

pub returns-clause-counts : goal.returns-clause-counts
returns-clause-counts c = counts
