use Rattle.pk_law_work.proofs.Within.{calls_most}
use Rattle.pk_law_work.proofs.commands.Goals as goal

pub returns : goal.returns
returns c = calls_most
