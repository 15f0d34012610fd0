use Rattle.std.proofs.Common.{ap, ◌∙◌, refl}
use Rattle.pk_flash.{specs.declared.types.Planned.Planned, specs.Plan.planned_left, proofs.PlanLemmas.later-same, proofs.PlanLemmas.later-other}
use Rattle.pk_flash.proofs.flash.Flash.fail.Goals as goal

pub returns-clause-planned : goal.returns-clause-planned
returns-clause-planned c =
    let next : Planned = record { call = c.args.call; left = c.args.left } in
    ap (λ l. planned_left l c.args.call) c.in_ok-push.ensures.items ∙ later-same c.args.call c.args.self.now.plan.items next refl

pub returns-clause-others : goal.returns-clause-others
returns-clause-others c n other =
    let next : Planned = record { call = c.args.call; left = c.args.left } in
    ap (λ l. planned_left l n) c.in_ok-push.ensures.items ∙ later-other n c.args.self.now.plan.items next other
