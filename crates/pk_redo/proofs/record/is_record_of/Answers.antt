use Rattle.std.proofs.Common.{◌<◌, arith}
use Rattle.pk_base.specs.Shape.{page_count}
use Rattle.pk_redo.proofs.Tables.{in_table}
use Rattle.pk_redo.proofs.record.is_record_of.Goals as goal

pub state_at_page-requires : goal.state_at_page-requires
state_at_page-requires c =
    let low : c.loop-k.k < page_count c.args.shape.now = omega (arith, c.loop-k-test.true, c.requires.states) in
    omega (arith, in_table c.args.shape.now c.loop-k.k c.known.ensures low, c.record_len.ensures, c.if-bytes-record_len.false)
