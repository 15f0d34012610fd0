use Rattle.pk_meta.proofs.Reading.{meta_entries_again}
use Rattle.pk_meta.proofs.reads_back.Goals as goal

pub returns : goal.returns
returns c = meta_entries_again
