use Rattle.pk_segfmt.proofs.StoredLemmas.{value_again}
use Rattle.pk_segfmt.proofs.pages.reads_back.Goals as goal

pub returns : goal.returns
returns c = λ shape at key page value is head stored. value_again shape is key value head.is_key at page stored
