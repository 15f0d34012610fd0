use Rattle.pk_values.proofs.Unchanged.{lie_in_few, none_in_spare}
use Rattle.pk_values.proofs.laws.value_blocks.Goals as goal

pub returns-clause-few : goal.returns-clause-few
returns-clause-few c = lie_in_few

pub returns-clause-none_in_spare : goal.returns-clause-none_in_spare
returns-clause-none_in_spare c = none_in_spare
