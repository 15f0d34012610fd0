use Rattle.std.proofs.Common.{[], ◌∷◌, ap, refl, rules, sym, ◌∙◌, option_map}
use Rattle.pk_base.specs.Seen.{entry as seen}
use Rattle.pk_walk.{specs.Heads.seen_head, specs.Visible.behind_found, specs.Walking.seen_tops}
use Rattle.pk_walk.proofs.Keeping.{before_first, before_fourth, before_second, before_third, none_kept}
use Rattle.pk_walk.proofs.Taking.{fourth_went, third_went, second_went, first_went, frozen_went, active_went}
use Rattle.pk_walk.proofs.cursors.Cursors.take_least.Goals as goal

pub returns-then-is_gt : goal.returns-then-is_gt
returns-then-is_gt g c =
    let are = (rw (← c.self.view_is) at c.orders-orders.ensures) _ _ _ _ _ _ refl in
    let went = fourth_went (seen_tops c.args.tops.now) c.self.inside.first c.self.inside.second c.self.inside.third c.self.inside.fourth c.orders-orders.result are
    (option_map seen c.take.result) (seen_tops c.args.tops.now) c.self.inside.first c.self.inside.second c.self.inside.third c.take.new.self
    (sym c.is_gt.ensures ∙ c.if-is_gt.true) c.take.ensures.entry refl refl refl refl c.take.ensures.cursor in
    record {
      least = rw (← c.self.view_is) went.0;
      behind = rw (← c.self.view_is) went.1;
      four = search rules;
      kept = before_fourth (seen_tops c.args.tops.now) c.self.inside.first c.self.inside.second c.self.inside.third c.self.inside.fourth c.orders-orders.result are
          (rw (← c.self.view_is) at c.requires.settled) c.before_fourth.result c.take.new.self c.before_fourth.ensures;
      passed = c.lead.ensures ∙ ap (λ o. behind_found o c.args.position.now) (sym c.take.ensures.entry);
    }

pub returns-then-is_gt-2 : goal.returns-then-is_gt-2
returns-then-is_gt-2 g c =
    let are = (rw (← c.self.view_is) at c.orders-orders.ensures) _ _ _ _ _ _ refl in
    let went = third_went (seen_tops c.args.tops.now) c.self.inside.first c.self.inside.second c.self.inside.third c.self.inside.fourth c.orders-orders.result are
    (option_map seen c.take-then-is_gt-2.result) (seen_tops c.args.tops.now) c.self.inside.first c.self.inside.second c.take-then-is_gt-2.new.self c.pass.new.self
    (sym c.is_gt.ensures ∙ c.if-is_gt.false) c.pass.ensures
    (sym c.is_gt-2.ensures ∙ c.if-is_gt-2.true) c.take-then-is_gt-2.ensures.entry refl refl refl c.take-then-is_gt-2.ensures.cursor in
    record {
      least = rw (← c.self.view_is) went.0;
      behind = rw (← c.self.view_is) went.1;
      four = search rules;
      kept = before_third (seen_tops c.args.tops.now) c.self.inside.first c.self.inside.second c.self.inside.third c.self.inside.fourth c.orders-orders.result are
          (rw (← c.self.view_is) at c.requires.settled) c.before_third.result c.take-then-is_gt-2.new.self c.pass.new.self c.before_third.ensures;
      passed = c.lead-then-is_gt-2.ensures ∙ ap (λ o. behind_found o c.args.position.now) (sym c.take-then-is_gt-2.ensures.entry);
    }

pub returns-then-is_gt-3 : goal.returns-then-is_gt-3
returns-then-is_gt-3 g c =
    let are = (rw (← c.self.view_is) at c.orders-orders.ensures) _ _ _ _ _ _ refl in
    let went = second_went (seen_tops c.args.tops.now) c.self.inside.first c.self.inside.second c.self.inside.third c.self.inside.fourth c.orders-orders.result are
    (option_map seen c.take-then-is_gt-3.result) (seen_tops c.args.tops.now) c.self.inside.first c.take-then-is_gt-3.new.self c.pass-2.new.self c.pass.new.self
    (sym c.is_gt.ensures ∙ c.if-is_gt.false) c.pass.ensures
    (sym c.is_gt-2.ensures ∙ c.if-is_gt-2.false) c.pass-2.ensures
    (sym c.is_gt-3.ensures ∙ c.if-is_gt-3.true) c.take-then-is_gt-3.ensures.entry refl refl c.take-then-is_gt-3.ensures.cursor in
    record {
      least = rw (← c.self.view_is) went.0;
      behind = rw (← c.self.view_is) went.1;
      four = search rules;
      kept = before_second (seen_tops c.args.tops.now) c.self.inside.first c.self.inside.second c.self.inside.third c.self.inside.fourth c.orders-orders.result are
          (rw (← c.self.view_is) at c.requires.settled) c.before_second.result c.take-then-is_gt-3.new.self c.pass-2.new.self c.pass.new.self c.before_second.ensures;
      passed = c.lead-then-is_gt-3.ensures ∙ ap (λ o. behind_found o c.args.position.now) (sym c.take-then-is_gt-3.ensures.entry);
    }

pub returns-then-is_gt-4 : goal.returns-then-is_gt-4
returns-then-is_gt-4 g c =
    let are = (rw (← c.self.view_is) at c.orders-orders.ensures) _ _ _ _ _ _ refl in
    let went = first_went (seen_tops c.args.tops.now) c.self.inside.first c.self.inside.second c.self.inside.third c.self.inside.fourth c.orders-orders.result are
    (option_map seen c.take-then-is_gt-4.result) (seen_tops c.args.tops.now) c.take-then-is_gt-4.new.self c.pass-3.new.self c.pass-2.new.self c.pass.new.self
    (sym c.is_gt.ensures ∙ c.if-is_gt.false) c.pass.ensures
    (sym c.is_gt-2.ensures ∙ c.if-is_gt-2.false) c.pass-2.ensures
    (sym c.is_gt-3.ensures ∙ c.if-is_gt-3.false) c.pass-3.ensures
    (sym c.is_gt-4.ensures ∙ c.if-is_gt-4.true) c.take-then-is_gt-4.ensures.entry refl c.take-then-is_gt-4.ensures.cursor in
    record {
      least = rw (← c.self.view_is) went.0;
      behind = rw (← c.self.view_is) went.1;
      four = search rules;
      kept = before_first (seen_tops c.args.tops.now) c.self.inside.first c.self.inside.second c.self.inside.third c.self.inside.fourth c.orders-orders.result are
          (rw (← c.self.view_is) at c.requires.settled) c.before_first.result c.take-then-is_gt-4.new.self c.pass-3.new.self c.pass-2.new.self c.pass.new.self c.before_first.ensures;
      passed = c.lead-then-is_gt-4.ensures ∙ ap (λ o. behind_found o c.args.position.now) (sym c.take-then-is_gt-4.ensures.entry);
    }

pub returns-then-is_gt-5 : goal.returns-then-is_gt-5
returns-then-is_gt-5 g c =
    let are = (rw (← c.self.view_is) at c.orders-orders.ensures) _ _ _ _ _ _ refl in
    let went = frozen_went (seen_tops c.args.tops.now) c.self.inside.first c.self.inside.second c.self.inside.third c.self.inside.fourth c.orders-orders.result are
    (option_map seen c.take-then-is_gt-5.result) (record { active = seen_head c.args.tops.now.active.head; frozen = seen_head c.take-then-is_gt-5.new.self })
    c.pass-4.new.self c.pass-3.new.self c.pass-2.new.self c.pass.new.self
    (sym c.is_gt.ensures ∙ c.if-is_gt.false) c.pass.ensures
    (sym c.is_gt-2.ensures ∙ c.if-is_gt-2.false) c.pass-2.ensures
    (sym c.is_gt-3.ensures ∙ c.if-is_gt-3.false) c.pass-3.ensures
    (sym c.is_gt-4.ensures ∙ c.if-is_gt-4.false) c.pass-4.ensures
    (sym c.is_gt-5.ensures ∙ c.if-is_gt-5.true) c.take-then-is_gt-5.ensures.entry refl c.take-then-is_gt-5.ensures.head in
    record {
      least = rw (← c.self.view_is) went.0;
      behind = rw (← c.self.view_is) went.1;
      four = search rules;
      kept = none_kept (record { active = seen_head c.args.tops.now.active.head; frozen = seen_head c.take-then-is_gt-5.new.self })
          (c.pass-4.new.self ∷ c.pass-3.new.self ∷ c.pass-2.new.self ∷ c.pass.new.self ∷ []) c.none.result c.none.ensures;
      passed = c.lead-then-is_gt-5.ensures ∙ ap (λ o. behind_found o c.args.position.now) (sym c.take-then-is_gt-5.ensures.entry);
    }

pub returns : goal.returns
returns g c =
    let are = (rw (← c.self.view_is) at c.orders-orders.ensures) _ _ _ _ _ _ refl in
    let went = active_went (seen_tops c.args.tops.now) c.self.inside.first c.self.inside.second c.self.inside.third c.self.inside.fourth c.orders-orders.result are
    (option_map seen c.take-2.result) (record { active = seen_head c.take-2.new.self; frozen = seen_head c.pass-5.new.self }) c.pass-4.new.self c.pass-3.new.self c.pass-2.new.self c.pass.new.self
    (sym c.is_gt.ensures ∙ c.if-is_gt.false) c.pass.ensures
    (sym c.is_gt-2.ensures ∙ c.if-is_gt-2.false) c.pass-2.ensures
    (sym c.is_gt-3.ensures ∙ c.if-is_gt-3.false) c.pass-3.ensures
    (sym c.is_gt-4.ensures ∙ c.if-is_gt-4.false) c.pass-4.ensures
    (sym c.is_gt-5.ensures ∙ c.if-is_gt-5.false) c.take-2.ensures.entry c.take-2.ensures.head c.pass-5.ensures in
    record {
      least = rw (← c.self.view_is) went.0;
      behind = rw (← c.self.view_is) went.1;
      four = search rules;
      kept = none_kept (record { active = seen_head c.take-2.new.self; frozen = seen_head c.pass-5.new.self })
          (c.pass-4.new.self ∷ c.pass-3.new.self ∷ c.pass-2.new.self ∷ c.pass.new.self ∷ []) c.none.result c.none.ensures;
      passed = c.lead-2.ensures ∙ ap (λ o. behind_found o c.args.position.now) (sym c.take-2.ensures.entry);
    }
