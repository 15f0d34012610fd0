use Rattle.pk_values.proofs.Unchanged.{flash_elsewhere, block_elsewhere}
use Rattle.pk_values.proofs.laws.elsewhere.Goals as goal

pub returns-clause-flash : goal.returns-clause-flash
returns-clause-flash c = flash_elsewhere

pub returns-clause-block : goal.returns-clause-block
returns-clause-block c = block_elsewhere
