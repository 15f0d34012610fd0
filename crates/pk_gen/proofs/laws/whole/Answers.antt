use Rattle.pk_gen.proofs.Wholes.{all_whole}
use Rattle.pk_gen.proofs.laws.whole.Goals as goal

pub returns : goal.returns
returns c = all_whole
