use Rattle.std.proofs.Common.{subst, sym, ◌≤◌, ◌∷◌, [], ◌≡◌}
use Rattle.pk_base.specs.Shape.{limit, data_blocks}
use Rattle.pk_space.{specs.Limits.AcceptsLimits, proofs.Whole.accepts_whole}
use Rattle.pk_space.proofs.limits.Limits.whole.Goals as goal

pub of_each-requires : goal.of_each-requires
of_each-requires c = subst (λ n. AcceptsLimits c.args.shape.now (n ∷ [])) (sym c.limit.ensures.value)
    (accepts_whole c.args.shape.now c.limit.ensures.shape (subst (λ n. 3 ≤ n) c.data_blocks.ensures.value c.data_blocks.ensures.least))
