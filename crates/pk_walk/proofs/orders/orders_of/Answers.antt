use Rattle.std.proofs.Common.{[], ◌∷◌}
use Rattle.pk_walk.{specs.Heads.seen_head, proofs.Keeping.is_kept, proofs.Taking.lead, proofs.Taking.lead_first, proofs.Taking.stands_to}
use Rattle.pk_walk.proofs.orders.orders_of.Goals as goal

pub kept_order-of_second-requires : goal.kept_order-of_second-requires
kept_order-of_second-requires c =
    let a = seen_head c.args.active.now in
    let b = seen_head c.args.frozen.now in
    let d = seen_head c.args.first.now in
    let one = lead_first c.args.active.now in
    let two = lead (a ∷ []) c.args.active.now c.args.frozen.now c.lower-upper.result.now c.kept_order-of_frozen.result one c.kept_order-of_frozen.ensures c.lower-upper.ensures in
    let three = lead (a ∷ b ∷ []) c.lower-upper.result.now c.args.first.now c.lower-two.result.now c.kept_order-of_first.result two c.kept_order-of_first.ensures c.lower-two.ensures in
    is_kept (a ∷ b ∷ d ∷ []) c.lower-two.result.now c.args.second.now c.args.kept.now.second three c.requires.1.1.0

pub kept_order-of_third-requires : goal.kept_order-of_third-requires
kept_order-of_third-requires c =
    let a = seen_head c.args.active.now in
    let b = seen_head c.args.frozen.now in
    let d = seen_head c.args.first.now in
    let e = seen_head c.args.second.now in
    let one = lead_first c.args.active.now in
    let two = lead (a ∷ []) c.args.active.now c.args.frozen.now c.lower-upper.result.now c.kept_order-of_frozen.result one c.kept_order-of_frozen.ensures c.lower-upper.ensures in
    let three = lead (a ∷ b ∷ []) c.lower-upper.result.now c.args.first.now c.lower-two.result.now c.kept_order-of_first.result two c.kept_order-of_first.ensures c.lower-two.ensures in
    let four = lead (a ∷ b ∷ d ∷ []) c.lower-two.result.now c.args.second.now c.lower-three.result.now c.kept_order-of_second.result three c.kept_order-of_second.ensures c.lower-three.ensures in
    is_kept (a ∷ b ∷ d ∷ e ∷ []) c.lower-three.result.now c.args.third.now c.args.kept.now.third four c.requires.1.1.1.0

pub kept_order-requires : goal.kept_order-requires
kept_order-requires c =
    let a = seen_head c.args.active.now in
    let b = seen_head c.args.frozen.now in
    let d = seen_head c.args.first.now in
    let e = seen_head c.args.second.now in
    let f = seen_head c.args.third.now in
    let one = lead_first c.args.active.now in
    let two = lead (a ∷ []) c.args.active.now c.args.frozen.now c.lower-upper.result.now c.kept_order-of_frozen.result one c.kept_order-of_frozen.ensures c.lower-upper.ensures in
    let three = lead (a ∷ b ∷ []) c.lower-upper.result.now c.args.first.now c.lower-two.result.now c.kept_order-of_first.result two c.kept_order-of_first.ensures c.lower-two.ensures in
    let four = lead (a ∷ b ∷ d ∷ []) c.lower-two.result.now c.args.second.now c.lower-three.result.now c.kept_order-of_second.result three c.kept_order-of_second.ensures c.lower-three.ensures in
    let five = lead (a ∷ b ∷ d ∷ e ∷ []) c.lower-three.result.now c.args.third.now c.lower-four.result.now c.kept_order-of_third.result four c.kept_order-of_third.ensures c.lower-four.ensures in
    is_kept (a ∷ b ∷ d ∷ e ∷ f ∷ []) c.lower-four.result.now c.args.fourth.now c.args.kept.now.fourth five c.requires.1.1.1.1.0

pub returns : goal.returns
returns c =
    let a = seen_head c.args.active.now in
    let b = seen_head c.args.frozen.now in
    let d = seen_head c.args.first.now in
    let e = seen_head c.args.second.now in
    let f = seen_head c.args.third.now in
    let one = lead_first c.args.active.now in
    let two = lead (a ∷ []) c.args.active.now c.args.frozen.now c.lower-upper.result.now c.kept_order-of_frozen.result one c.kept_order-of_frozen.ensures c.lower-upper.ensures in
    let three = lead (a ∷ b ∷ []) c.lower-upper.result.now c.args.first.now c.lower-two.result.now c.kept_order-of_first.result two c.kept_order-of_first.ensures c.lower-two.ensures in
    let four = lead (a ∷ b ∷ d ∷ []) c.lower-two.result.now c.args.second.now c.lower-three.result.now c.kept_order-of_second.result three c.kept_order-of_second.ensures c.lower-three.ensures in
    let five = lead (a ∷ b ∷ d ∷ e ∷ []) c.lower-three.result.now c.args.third.now c.lower-four.result.now c.kept_order-of_third.result four c.kept_order-of_third.ensures c.lower-four.ensures in
    search (
      stands_to (a ∷ []) c.args.active.now c.args.frozen.now c.kept_order-of_frozen.result one c.kept_order-of_frozen.ensures,
      stands_to (a ∷ b ∷ []) c.lower-upper.result.now c.args.first.now c.kept_order-of_first.result two c.kept_order-of_first.ensures,
      stands_to (a ∷ b ∷ d ∷ []) c.lower-two.result.now c.args.second.now c.kept_order-of_second.result three c.kept_order-of_second.ensures,
      stands_to (a ∷ b ∷ d ∷ e ∷ []) c.lower-three.result.now c.args.third.now c.kept_order-of_third.result four c.kept_order-of_third.ensures,
      stands_to (a ∷ b ∷ d ∷ e ∷ f ∷ []) c.lower-four.result.now c.args.fourth.now c.kept_order.result five c.kept_order.ensures,
    )
