use Rattle.pk_segfmt.proofs.StoredLemmas.{value_found}
use Rattle.pk_segfmt.proofs.pages.stands_where_read.Goals as goal

pub returns : goal.returns
returns c = value_found
