use Rattle.std.{proofs.Common.◌≡◌, proofs.Common.ap, proofs.Common.sym, proofs.Common.subst, proofs.Common.◌∙◌, proofs.Common.rules, specs.FinMap.insert}
use Rattle.pk_base.specs.Map.{Map}
use Rattle.pk_model.{specs.Spaces.in_space, proofs.SpaceLemmas.in_space-insert}
use Rattle.pk_model.proofs.machine.MapMachine.put.Goals as goal

pub invariant_of-self-in-Ok : goal.invariant_of-self-in-Ok
invariant_of-self-in-Ok c = (
  search rules,
  search rules,
  subst (λ (m : Map). in_space 1 m ≡ m) (sym c.in-Ok.ensures.ok)
      (in_space-insert 1 c.self.inside.map c.args.key c.requires.space c.in_ok-of.field-0 ∙ ap (λ (m : Map). insert m c.args.key c.in_ok-of.field-0) c.self.invariant.2),
)
