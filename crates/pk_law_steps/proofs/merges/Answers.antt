use Rattle.pk_law_steps.{proofs.FreedCounts.freed_counted, proofs.Remaining.merged_still, proofs.Spelling.merged_grammar, proofs.Following.merged_next, proofs.Freeing.freed}
use Rattle.pk_law_steps.proofs.merges.Goals as goal

pub returns-clause-merged : goal.returns-clause-merged
returns-clause-merged c = merged_next

pub returns-clause-freed : goal.returns-clause-freed
returns-clause-freed c = freed

pub returns-clause-grammar : goal.returns-clause-grammar
returns-clause-grammar c = merged_grammar

pub returns-clause-still : goal.returns-clause-still
returns-clause-still c = merged_still

pub returns-clause-counted : goal.returns-clause-counted
returns-clause-counted c = freed_counted
