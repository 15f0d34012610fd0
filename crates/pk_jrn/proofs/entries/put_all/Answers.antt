use Rattle.pk_base.specs.Seen.{entry as seen}
use Rattle.pk_jrn.proofs.Replaying.{Putting-next, Putting-full}
use Rattle.pk_jrn.proofs.entries.put_all.Goals as goal

pub returns-then-not-put_one : goal.returns-then-not-put_one
returns-then-not-put_one g c =
    Putting-full c.args.shape.now c.args.page.now c.args.count c.args.into.now c.loop-i.into c.put_one.new.into c.loop-i.i (seen c.entry.result) c.len.ensures.rising c.entry.ensures c.loop-i.invariant
    c.if-not-put_one.ensures

pub loop-i-preserved : goal.loop-i-preserved
loop-i-preserved g c =
    Putting-next c.args.shape.now c.args.page.now c.args.count c.args.into.now c.loop-i.into c.put_one.new.into c.loop-i.i (seen c.entry.result) c.entry.ensures c.loop-i.invariant
    c.if-not-put_one.ensures
