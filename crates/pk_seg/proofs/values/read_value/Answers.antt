use Rattle.std.proofs.Common.{◌≡◌, ◌∙◌, length, arith, ap}
use Rattle.pk_base.specs.Shape.{fetched}
use Rattle.pk_nand.specs.BoardState.{BoardState}
use Rattle.pk_seg.proofs.Readings.{Filling-exists, Filling-next, Filling-end}
use Rattle.pk_seg.proofs.values.read_value.Goals as goal

pub read_part-requires-clause-number : goal.read_part-requires-clause-number
read_part-requires-clause-number g c =
    let less = rw c.fetched-i-end.ensures.value at c.loop-i-test.true in
    let v = c.requires.value in
    let exists = Filling-exists (g.B.Nand.state c.args.board.now) c.args.shape.now c.args.page (length c.args.into.now) c.loop-i.i v.0 v.1 c.known.ensures v.2 less in
    let size = c.requires.ready.flash.size in
    omega (arith, exists, size, c.page_count.ensures.value, c.page_count.type_inv)

pub read_part-requires-clause-exists : goal.read_part-requires-clause-exists
read_part-requires-clause-exists g c =
    let less = rw c.fetched-i-end.ensures.value at c.loop-i-test.true in
    let v = c.requires.value in
    rw (ap (λ (b : BoardState). b.pages) c.loop-i.invariant.filling.board)
    (Filling-exists (g.B.Nand.state c.args.board.now) c.args.shape.now c.args.page (length c.args.into.now) c.loop-i.i v.0 v.1 c.known.ensures v.2 less)

pub loop-i-preserved : goal.loop-i-preserved
loop-i-preserved g c = record {
  buffer = c.read_part.auto.buf ∙ c.loop-i.invariant.buffer;
  filling =
      let less = rw c.fetched-i-end.ensures.value at c.loop-i-test.true in
      rw c.in-Ok.ensures.ok
      (Filling-next _ _ c.args.shape.now c.args.page (length c.args.into.now) c.loop-i.i
      c.loop-i.into c.read_part.new.into c.known.ensures less c.loop-i.invariant.filling
      c.read_part.auto.into c.in-Ok.ensures.piece);
}

pub returns-clause-front : goal.returns-clause-front
returns-clause-front g c key value is =
    let all : c.loop-i.i ≡ fetched c.args.shape.now (length c.args.into.now) = omega (arith, c.loop-i-test.false, c.loop-i.auto.i-end, c.fetched-i-end.ensures.value) in
    let f = rw all at c.loop-i.invariant.filling in
    Filling-end _ _ c.args.shape.now c.args.page (length c.args.into.now) c.loop-i.into c.known.ensures f key value is
