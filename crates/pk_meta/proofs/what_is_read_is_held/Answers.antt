use Rattle.pk_meta.proofs.Reading.{meta_held}
use Rattle.pk_meta.proofs.what_is_read_is_held.Goals as goal

pub returns : goal.returns
returns c = meta_held
