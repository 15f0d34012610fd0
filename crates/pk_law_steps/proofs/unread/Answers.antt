use Rattle.pk_law_steps.proofs.Untouched.{same, programs, erases}
use Rattle.pk_law_steps.proofs.unread.Goals as goal

pub returns-clause-same : goal.returns-clause-same
returns-clause-same c = same

pub returns-clause-programs : goal.returns-clause-programs
returns-clause-programs c = programs

pub returns-clause-erases : goal.returns-clause-erases
returns-clause-erases c = erases
