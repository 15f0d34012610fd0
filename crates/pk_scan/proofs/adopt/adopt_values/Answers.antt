use Rattle.std.proofs.Common.{◌∙◌, ◌<◌, ◌≤◌, length, sym, arith}
use Rattle.pk_scan.proofs.Closing.{settled, next_is_spare, room_left, ValuesAdopting-passed, ValuesAdopting-next, ValuesAdopting-end}
use Rattle.pk_scan.proofs.adopt.adopt_values.Goals.{then-is_closed, else-is_closed}
use Rattle.pk_scan.proofs.adopt.adopt_values.Goals as goal

pub adopt-requires : goal.adopt-requires
adopt-requires g c =
    let s = settled c.args.pool.now c.args.live.now c.known.ensures.plan.is_shape c.requires.named in
    let inside : c.loop-block.block < c.args.pool.now.shape.blocks = rw c.blocks-block-end.ensures at c.loop-block-test.true in
    let within : c.loop-block.block < length c.args.live.now.closed = rw s.many inside in
    let closed = sym c.is_closed.ensures ∙ c.if-is_closed.true in
    record {
      free = next_is_spare c.args.live.now c.loop-block.block within c.loop-block.invariant (s.spare c.loop-block.block inside closed);
      below = room_left c.args.live.now c.loop-block.block within c.loop-block.invariant closed s.none s.few (let least = c.known.ensures.plan.data_least in omega (arith, least));
    }

pub loop-block-preserved : goal.loop-block-preserved
loop-block-preserved g c =
    let s = settled c.args.pool.now c.args.live.now c.known.ensures.plan.is_shape c.requires.named in
    let inside : c.loop-block.block < c.args.pool.now.shape.blocks = rw c.blocks-block-end.ensures at c.loop-block-test.true in
    let within : c.loop-block.block < length c.args.live.now.closed = rw s.many inside in
    elim c.if-is_closed.branch [
      | then-is_closed w ↦
          let closed = sym c.is_closed.ensures ∙ w.if-is_closed.true in
          let spare = next_is_spare c.args.live.now c.loop-block.block within c.loop-block.invariant (s.spare c.loop-block.block inside closed) in
          rw w.pool-is (ValuesAdopting-next c.args.live.now c.loop-block.block within c.loop-block.invariant w.adopt.new.self closed spare w.adopt.ensures.adopted w.adopt.ensures.counted w.adopt.ensures.fits)
      | else-is_closed w ↦
          rw w.pool-is (ValuesAdopting-passed c.args.live.now c.loop-block.block within c.loop-block.invariant (sym c.is_closed.ensures ∙ w.if-is_closed.false))
    ]

pub returns : goal.returns
returns g c =
    let s = settled c.args.pool.now c.args.live.now c.known.ensures.plan.is_shape c.requires.named in
    let end : length c.args.live.now.closed ≤ c.loop-block.block = let many = s.many in let is = c.blocks-block-end.ensures in omega (arith, many, is, c.loop-block-test.false) in
    let a = ValuesAdopting-end c.args.live.now c.loop-block.block end c.loop-block.invariant in
    let none = s.none in
    let few = s.few in
    record { adopted = a; counted = omega (arith, a.counted, none); few = omega (arith, a.counted, none, few) }
