use Rattle.pk_jrnfmt.proofs.PageLemmas.{journal_held}
use Rattle.pk_jrnfmt.proofs.what_is_read_is_held.Goals as goal

pub returns : goal.returns
returns c = journal_held
