use Rattle.std.proofs.Common.{◌∙◌, ℕ, List, subst, sym}
use Rattle.pk_base.specs.Shape.{Shape}
use Rattle.pk_space.specs.Limits.{AcceptsLimits}
use Rattle.pk_core.proofs.WrittenLimits.{other_limits, root_grammar}
use Rattle.pk_core.proofs.making.limits_in_root.Goals.{else-each-eq1-via-then-each-eq1+else-each-limit, else-each-eq1-via-else-each-eq1}
use Rattle.pk_core.proofs.making.limits_in_root.Goals as goal

pub returns-clause-grammar : goal.returns-clause-grammar
returns-clause-grammar c =
    let shape = c.args.shape.now in
    let limits = c.each-each.result.now in
    let accepts : AcceptsLimits shape limits =
    subst (λ (s : Shape). AcceptsLimits s limits) c.requires (subst (λ (ls : List ℕ). AcceptsLimits c.args.limits.now.shape ls) (sym c.each-each.ensures.value) c.each-each.ensures.accepted) in
    root_grammar shape limits accepts (other_limits shape limits (λ one is. elim c.else-each-eq1.branch [
      | else-each-eq1-via-then-each-eq1+else-each-limit w ↦ w.if-each-limit.false (is ∙ sym w.limit.ensures.value)
      | else-each-eq1-via-else-each-eq1 w ↦ w.if-each-eq1.false one
    ]))
