use Rattle.pk_gc.proofs.Cutting.{commit_begins, commit_begin_fails, commit_ends, commit_end_fails}
use Rattle.pk_gc.proofs.laws.cuts.Goals as goal

pub returns-clause-begins : goal.returns-clause-begins
returns-clause-begins c = commit_begins

pub returns-clause-begin_fails : goal.returns-clause-begin_fails
returns-clause-begin_fails c = commit_begin_fails

pub returns-clause-ends : goal.returns-clause-ends
returns-clause-ends c = commit_ends

pub returns-clause-end_fails : goal.returns-clause-end_fails
returns-clause-end_fails c = commit_end_fails
