use Rattle.pk_file.proofs.Replayed.{part_of_log}
use Rattle.pk_file.proofs.logged.front_in_log.Goals as goal

pub returns-clause-value : goal.returns-clause-value
returns-clause-value c = part_of_log c.args.log.now c.args.at c.args.len
