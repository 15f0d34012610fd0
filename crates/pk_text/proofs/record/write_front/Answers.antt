use Rattle.std.proofs.Common.{arith, ◌≤◌, length}
use Rattle.pk_show.specs.Shown.{shown_head}
use Rattle.pk_text.proofs.Showing.{front_short, no_refusal}
use Rattle.pk_text.proofs.record.write_front.Goals as goal

pub unreachable-requires : goal.unreachable-requires
unreachable-requires c =
    let short : length (shown_head c.args.head.now) ≤ 66 = front_short c.args.head.now c.cid_in.result c.result_in.result
    c.reads_in.result c.cid_in.ensures c.result_in.ensures.field c.reads_in.ensures (omega arith) (omega arith) (omega arith) in
    no_refusal c.args.text.now c.clear.new.self (shown_head c.args.head.now) c.show_head.result short c.requires c.clear.ensures c.show_head.ensures.fits c.if-not-show_head.true
