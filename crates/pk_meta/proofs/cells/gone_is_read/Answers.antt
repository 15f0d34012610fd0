use Rattle.pk_meta.proofs.CellLemmas.{gone_reads}
use Rattle.pk_meta.proofs.cells.gone_is_read.Goals as goal

pub returns-clause-read : goal.returns-clause-read
returns-clause-read c = gone_reads c.args.key.now c.bytes.ensures.key
