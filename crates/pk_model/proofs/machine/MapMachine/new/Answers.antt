use Rattle.std.proofs.Common.{◌≡◌, sym, ap, subst, ◌∙◌, arith}
use Rattle.pk_base.specs.Map.{Map, live}
use Rattle.pk_model.{specs.Spaces.in_space, proofs.SpaceLemmas.in_space-empty, proofs.Machines.live-empty}
use Rattle.pk_model.proofs.machine.MapMachine.new.Goals as goal

pub invariant_of-result : goal.invariant_of-result
invariant_of-result c = (
  sym (ap (live c.args.shape) c.new.ensures ∙ live-empty c.args.shape),
  omega arith,
  subst (λ (m : Map). in_space 1 m ≡ m) (sym c.new.ensures) (in_space-empty 1),
)
