use Rattle.std.{proofs.Common.◌≡◌, proofs.Common.◌+◌, proofs.Common.◌-◌, proofs.Common.ℕ, proofs.Common.subst, proofs.Common.arith, proofs.Common.Some, specs.Prelude.slice_get}
use Rattle.pk_scan.proofs.Adopting.{may_next, RunsAdopting-next}
use Rattle.pk_scan.proofs.adopt.adopt_runs.Goals as goal

pub adopt_all-requires : goal.adopt_all-requires
adopt_all-requires g c =
    let at : c.loop-i.i + 1 - 1 ≡ c.loop-i.i = omega arith in
    may_next _ _ _ _ c.loop-i.invariant _ (subst (λ (k : ℕ). slice_get c.args.root.now.root.runs k ≡ Some c.blocks-in-loop-i.result.now) at c.blocks-in-loop-i.ensures)

pub loop-i-preserved : goal.loop-i-preserved
loop-i-preserved g c =
    let at : c.loop-i.i + 1 - 1 ≡ c.loop-i.i = omega arith in
    RunsAdopting-next _ _ _ _ c.loop-i.invariant c.blocks-in-loop-i.result.now c.adopt_all.new.pool
    (subst (λ (k : ℕ). slice_get c.args.root.now.root.runs k ≡ Some c.blocks-in-loop-i.result.now) at c.blocks-in-loop-i.ensures) c.adopt_all.ensures
