use Rattle.std.proofs.Common.{◌∙◌, sym, ap, length, arith}
use Rattle.pk_base.{proofs.ShapeLemmas.charge_most, specs.Shape.charge}
use Rattle.pk_background.{specs.Spacing.needs, proofs.Callings.spends_within}
use Rattle.pk_law_work.specs.Calls.{room_calls}
use Rattle.pk_core.proofs.Stored.{store_can, was_whole, put_stores, room_most, reads_if_room}
use Rattle.pk_core.proofs.storing.put_with_space.Goals as goal

pub put_behind_reclaims-requires-clause-can : goal.put_behind_reclaims-requires-clause-can
put_behind_reclaims-requires-clause-can g c = (store_can c.args.parts.now (g.B.Nand.state c.args.board.now) c.args.key c.args.value.now c.args.old c.requires.can.0, c.requires.can.1)

pub put-requires-clause-number : goal.put-requires-clause-number
put-requires-clause-number g c = omega (arith, room_most (store_can c.args.parts.now (g.B.Nand.state c.args.board.now) c.args.key c.args.value.now c.args.old c.requires.can.0) c.requires.unworn)

pub put_behind_reclaims-requires-clause-whole : goal.put_behind_reclaims-requires-clause-whole
put_behind_reclaims-requires-clause-whole g c = was_whole c.args.parts.now (g.B.Nand.state c.args.board.now) c.args.key c.args.value.now c.args.old c.requires.can.0

pub returns-else-needs_space-clause-stores : goal.returns-else-needs_space-clause-stores
returns-else-needs_space-clause-stores g c =
    let e = c.put.ensures in
    record {
      step = put_stores c.args.parts.now (g.B.Nand.state c.args.board.now) c.args.key c.args.value.now c.args.old c.requires.can.0 c.put.result c.put.new.parts
          (g.B.Nand.state c.put.new.board) (room_calls c.args.parts.now.log.shape) _ (omega arith) e.step;
      leaves = e.leaves;
      spends = spends_within _ _ _ _ _ _ (omega arith) (omega arith) e.spends;
    }

pub returns-else-needs_space-clause-quiet : goal.returns-else-needs_space-clause-quiet
returns-else-needs_space-clause-quiet g c =
    reads_if_room c.put.result c.args.parts.now c.args.key (charge c.args.parts.now.log.shape (length c.args.value.now))
    (g.B.Nand.state c.args.board.now) (g.B.Nand.state c.put.new.board) c.put.ensures.quiet

pub needs_space-requires : goal.needs_space-requires
needs_space-requires g c =
    let can = c.requires.can.0 in
    let most = charge_most c.args.parts.now.log.shape (length c.args.value.now) can.may.1.stands.with.index.logs.is_shape can.short in
    omega (arith, most, c.requires.can.1)

pub put_behind_reclaims-requires-clause-no_room : goal.put_behind_reclaims-requires-clause-no_room
put_behind_reclaims-requires-clause-no_room g c = ap (λ n. needs n c.args.parts.now) (sym c.requires.can.1) ∙ (sym c.needs_space.ensures ∙ c.if-needs_space.true)

pub put-requires-clause-room : goal.put-requires-clause-room
put-requires-clause-room g c = ap (λ n. needs n c.args.parts.now) (sym c.requires.can.1) ∙ (sym c.needs_space.ensures ∙ c.if-needs_space.false)
