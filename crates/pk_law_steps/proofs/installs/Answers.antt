use Rattle.pk_law_steps.proofs.Standing.{installed, installs}
use Rattle.pk_law_steps.proofs.installs.Goals as goal

pub returns-clause-installed : goal.returns-clause-installed
returns-clause-installed c = installed

pub returns-clause-installs : goal.returns-clause-installs
returns-clause-installs c = installs
