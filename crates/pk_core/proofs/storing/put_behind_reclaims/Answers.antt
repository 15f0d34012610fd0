use Rattle.std.proofs.Common.{◌+◌, length, arith, rules, sym, ap, ◌∙◌}
use Rattle.pk_base.{specs.Shape.charge, proofs.ShapeLemmas.charge_most}
use Rattle.pk_law_work.specs.Calls.{room_calls, space_calls}
use Rattle.pk_background.{specs.Spacing.needs, proofs.Callings.spends_within}
use Rattle.pk_core.{proofs.Later.stores_later, proofs.Later.stays_later, proofs.Stored.may_step, proofs.Stored.reclaims_lead, proofs.Stored.whole_behind}
use Rattle.pk_core.proofs.Stored.{can_behind, room_behind, numbers_behind, stores_failed, stays_failed, fresh_behind, fresh_failed, opens_behind, room_most}
use Rattle.pk_core.specs.Whole.{store_most}
use Rattle.pk_changes.proofs.StoreCalls.{spends_behind}
use Rattle.pk_core.proofs.storing.put_behind_reclaims.Goals as goal

pub make_space-requires-clause-may : goal.make_space-requires-clause-may
make_space-requires-clause-may g c = may_step c.requires.can.0 c.requires.whole

pub make_space-requires-clause-number : goal.make_space-requires-clause-number
make_space-requires-clause-number g c = omega (arith, room_most c.requires.can.0 c.requires.unworn)

pub put_found-requires-clause-can : goal.put_found-requires-clause-can
put_found-requires-clause-can g c =
    let e = c.in-Ok.ensures in (
      can_behind c.requires.can.0 c.requires.whole e.stays e.none e.step,
      c.requires.can.1 ∙ ap (λ s. charge s (length c.args.value.now)) (sym e.stays.same_shape),
    )

pub put_found-requires-clause-whole : goal.put_found-requires-clause-whole
put_found-requires-clause-whole g c = let e = c.in-Ok.ensures in whole_behind c.requires.can.0 c.requires.whole e.stays e.none e.step

pub put_found-requires-clause-room : goal.put_found-requires-clause-room
put_found-requires-clause-room g c =
    let e = c.in-Ok.ensures in
    room_behind c.requires.can.0 c.requires.whole e.stays e.none e.step (ap (λ n. needs n c.make_space.new.parts) (sym c.requires.can.1) ∙ e.room)

pub put_found-requires-clause-number : goal.put_found-requires-clause-number
put_found-requires-clause-number g c = let e = c.in-Ok.ensures in numbers_behind c.requires.can.0 c.requires.whole e.stays e.none e.step (omega (arith, room_most c.requires.can.0 c.requires.unworn))

pub returns-in-Ok : goal.returns-in-Ok
returns-in-Ok g c =
    let e = c.in-Ok.ensures in
    let p = c.put_found.ensures in
    let leads = reclaims_lead c.requires.can.0 c.requires.whole e.stays e.none e.step in
    let step = stores_later leads c.args.key c.args.value.now c.put_found.result c.put_found.new.parts (g.B.Nand.state c.put_found.new.board) (λ s. 4 + room_calls s) _ (omega arith) p.step in
    record {
      step = step;
      leaves = record {
        stays = stays_later leads c.put_found.result c.put_found.new.parts p.leaves.stays;
        opens = opens_behind c.args.parts.now (g.B.Nand.state c.args.board.now) c.args.key c.args.value.now (charge c.args.parts.now.log.shape (length c.args.value.now))
            c.requires.can.0 c.requires.whole c.requires.no_room c.put_found.result c.put_found.new.parts (g.B.Nand.state c.put_found.new.board) _ step
            (fresh_behind c.put_found.result c.args.parts.now c.make_space.new.parts c.put_found.new.parts _ e.stays p.leaves.opens);
        noted = p.leaves.noted;
        stops = p.leaves.stops;
      };
      spends = spends_behind _ _ _ _ _ e.stays.same_shape (length c.args.value.now) c.make_space.ensures.spends p.spends;
    }

pub returns-in-Err : goal.returns-in-Err
returns-in-Err g c =
    let e = c.in-Err.ensures in
    let step = stores_failed c.in-Err.fault c.args.parts.now c.make_space.new.parts (g.B.Nand.state c.args.board.now) (g.B.Nand.state c.make_space.new.board)
    (space_calls c.args.parts.now.log.shape) (store_most c.args.parts.now.log.shape) c.args.key c.args.value.now c.requires.can.0 c.requires.whole (omega arith) e.step in
    record {
      step = step;
      leaves = record {
        stays = stays_failed c.in-Err.fault c.args.parts.now c.make_space.new.parts (g.B.Nand.state c.args.board.now) c.args.key c.args.value.now c.requires.can.0 e.stays e.none;
        opens = opens_behind c.args.parts.now (g.B.Nand.state c.args.board.now) c.args.key c.args.value.now (charge c.args.parts.now.log.shape (length c.args.value.now))
            c.requires.can.0 c.requires.whole c.requires.no_room _ c.make_space.new.parts (g.B.Nand.state c.make_space.new.board) _ step
            (fresh_failed c.in-Err.fault c.args.parts.now c.make_space.new.parts e.stays);
        noted = tt;
        stops = search rules;
      };
      spends = spends_within _ _ _ _ _ _ (omega arith) (omega arith) c.make_space.ensures.spends;
    }

pub make_space-requires-clause-some : goal.make_space-requires-clause-some
make_space-requires-clause-some g c =
    let can = c.requires.can.0 in
    let most = charge_most c.args.parts.now.log.shape (length c.args.value.now) can.may.1.stands.with.index.logs.is_shape can.short in
    omega (arith, most, c.requires.can.1)
