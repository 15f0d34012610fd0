use Rattle.pk_law_steps.proofs.Untouched.{reads_under, under_reads}
use Rattle.pk_law_steps.proofs.reading.Goals as goal

pub returns-clause-under : goal.returns-clause-under
returns-clause-under c = reads_under

pub returns-clause-read : goal.returns-clause-read
returns-clause-read c = under_reads
