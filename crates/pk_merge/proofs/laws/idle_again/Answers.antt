use Rattle.pk_merge.proofs.Ending.{idle_one, idle_two}
use Rattle.pk_merge.proofs.laws.idle_again.Goals as goal

pub returns-clause-one : goal.returns-clause-one
returns-clause-one c = idle_one

pub returns-clause-two : goal.returns-clause-two
returns-clause-two c = idle_two
