-- What an index is before a step: its owners, its pages, and the merge that does not run.
use Rattle.std.proofs.Common.{◌≡◌, ◌⊎◌, inl, inr, ℕ, ◌*◌, ◌/◌, ◌≤◌, true, ◌++◌, Some, refl, subst, arith, mul-le-mul_right}
use Rattle.std.{specs.Prelude.slice_get, specs.List.concat}
use Rattle.pk_base.{specs.Page.Flash, specs.Map.Map, proofs.ShapeLemmas.block_pages_positive}
use Rattle.pk_plan.{specs.declared.owner.Owner.Owner, specs.declared.owner.Owner.TheVariants.Journal, specs.declared.owner.Owner.TheVariants.Meta, specs.declared.owner.Owner.TheVariants.Values}
use Rattle.pk_rootfmt.specs.Root.{Root, named}
use Rattle.pk_model.specs.Found.{Found}
use Rattle.pk_pool.{specs.declared.state.BlockState.TheVariants.Owned, specs.Blocks.IsShared, proofs.Sharing.behind_roots, proofs.States.owned_is_not_root}
use Rattle.pk_law_steps.proofs.Places.{In, in_append}
use Rattle.pk_merge.specs.Jobs.{IsIdle}
use Rattle.pk_compact.specs.Freezing.{IsApart}
use Rattle.pk_schedule.{specs.declared.phase.Phase.Phase, specs.declared.phase.Phase.TheVariants.Idle, specs.declared.phase.Phase.TheVariants.Running, specs.declared.phase.Phase.TheVariants.Ready}
use Rattle.pk_schedule.{specs.Index.Index, specs.Index.IndexOnFlash, specs.Index.MergeStands, specs.Steps.MayWork, specs.Steps.is_between, proofs.Giving.not_spare}

-- no merge runs: the job is idle
pub idle_of : (p : Phase) (x : Index) (flash : Flash) (root : Root) (found : Found) → is_between p ≡ true → MergeStands p x flash root found → (p ≡ Idle) × IsIdle x.log.shape x.schedule.job
idle_of Idle x flash root found is m = (refl, m)
idle_of (Running level) x flash root found is m = absurd (let e : ⊥ = cc in e)
idle_of (Ready level) x flash root found is m = absurd (let e : ⊥ = cc in e)

module _ (x : Index) (frames : ℕ) (flash : Flash) (top : ℕ × Root) (found : Found) (m : Map) (may : MayWork x frames flash top found m) where
  -- a block that the root names is the journal's or a run's
  pub named_owned : (b : ℕ) → In b (named top.1) → (slice_get x.pool.states b ≡ Some (Owned Journal)) ⊎ (slice_get x.pool.states b ≡ Some (Owned Meta))
  named_owned b is = elim (in_append b (top.1.newest ++ top.1.older) (concat top.1.runs) is) [ inl front ↦ inl (may.stands.journal b front) | inr back ↦ inr (may.stands.runs b back) ]

  -- no spare block is read
  pub apart_top : IsApart x.log.shape x.pool top.1 found
  apart_top = record {
    unnamed = λ b spare is. elim (named_owned b is) [ inl journal ↦ not_spare x.pool Journal b journal spare | inr meta ↦ not_spare x.pool Meta b meta spare ];
    no_value = λ b k spare here value. not_spare x.pool Values b (subst (λ n. slice_get x.pool.states n ≡ Some (Owned Values)) here (may.values k value)) spare;
  }

-- a page of a block with an owner is after the root blocks
pub owned_beyond : (x : Index) (frames : ℕ) (flash : Flash) (top : ℕ × Root) (found : Found) → IndexOnFlash x frames flash top found → IsShared x.pool.shape x.pool.states
    → (o : Owner) (k : ℕ) → slice_get x.pool.states (k / x.log.shape.block_pages) ≡ Some (Owned o) → 2 * x.log.shape.block_pages ≤ k
owned_beyond x frames flash top found stands shared o k owned =
    let least = behind_roots x.pool.shape x.pool.states (k / x.log.shape.block_pages) (Owned o) (owned_is_not_root {o = o}) owned shared in
    let twice : 2 * x.log.shape.block_pages ≤ (k / x.log.shape.block_pages) * x.log.shape.block_pages = mul-le-mul_right x.log.shape.block_pages least in
    let some = block_pages_positive x.log.shape stands.logs.is_shape in
    omega (arith, twice, some)
