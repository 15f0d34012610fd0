use Rattle.pk_model.proofs.Histories.{histories}
use Rattle.pk_model.proofs.laws.histories.Goals as goal

pub returns : goal.returns
returns c = histories
