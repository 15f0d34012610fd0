use Rattle.pk_redo.specs.Bytes.{number_in}
use Rattle.pk_redo.proofs.batch.get_number.Goals as goal

pub returns : goal.returns
unfolding number_in
returns c = c.get_u32.ensures
