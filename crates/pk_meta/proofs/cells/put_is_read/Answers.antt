use Rattle.std.proofs.Common.{arith}
use Rattle.pk_meta.proofs.CellLemmas.{put_reads}
use Rattle.pk_meta.proofs.cells.put_is_read.Goals as goal

pub returns-clause-read : goal.returns-clause-read
returns-clause-read c place page len = put_reads c.args.key.now place c.bytes.ensures.key (omega (arith, page, c.ranges.page)) (omega (arith, len, c.ranges.len))
