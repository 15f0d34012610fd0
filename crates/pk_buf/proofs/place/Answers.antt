use Rattle.std.proofs.Common.{arith, sym}
use Rattle.pk_buf.proofs.Places.{front_read, back_read, point_is}
use Rattle.pk_buf.proofs.place.Goals as goal

pub loop-low-preserved-then-comes_before : goal.loop-low-preserved-then-comes_before
loop-low-preserved-then-comes_before c = record {
  order = omega arith;
  within = omega arith;
  front = front_read _ _ _ _ c.index-slots-order.result c.requires.rising c.requires.within (omega arith) c.index-slots-order.is (sym c.if-comes_before.ensures);
  back = c.loop-low.invariant.back;
}

pub loop-low-preserved : goal.loop-low-preserved
loop-low-preserved c = record {
  order = omega arith;
  within = omega arith;
  front = c.loop-low.invariant.front;
  back = back_read _ _ _ _ c.index-slots-order.result c.requires.rising c.requires.within (omega arith) c.index-slots-order.is (sym c.if-comes_before.ensures);
}

pub returns-clause-place : goal.returns-clause-place
returns-clause-place c =
    let i = c.loop-low.invariant in
    point_is c.args.slots.now _ c.args.order.now _ (omega arith) (i.front, λ j d le lt. i.back j d (omega arith) lt)
