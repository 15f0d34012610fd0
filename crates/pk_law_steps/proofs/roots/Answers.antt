use Rattle.pk_law_steps.{proofs.Committing.commits, proofs.Committing.commits_pair, proofs.Committing.commit_done, proofs.Freezing.freezes}
use Rattle.pk_law_steps.proofs.roots.Goals as goal

pub returns-clause-commits : goal.returns-clause-commits
returns-clause-commits c = commits

pub returns-clause-pair : goal.returns-clause-pair
returns-clause-pair c = commits_pair

pub returns-clause-committed : goal.returns-clause-committed
returns-clause-committed c = commit_done

pub returns-clause-freezes : goal.returns-clause-freezes
returns-clause-freezes c = freezes
