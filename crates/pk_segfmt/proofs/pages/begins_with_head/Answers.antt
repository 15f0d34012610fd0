use Rattle.pk_segfmt.proofs.StoredLemmas.{first_starts}
use Rattle.pk_segfmt.proofs.pages.begins_with_head.Goals as goal

pub returns : goal.returns
returns c = λ shape key value is head. first_starts shape is key value head.is_key
