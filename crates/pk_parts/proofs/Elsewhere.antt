-- What is unchanged of a drive if no page differs that it needs.
use Rattle.std.{proofs.Common.◌≡◌, proofs.Common.ℕ, proofs.Common.◌/◌, proofs.Common.List, proofs.Common.Some, proofs.Common.sym, proofs.Common.subst, specs.Prelude.slice_get}
use Rattle.pk_base.{specs.Shape.Shape, specs.Page.Flash, specs.Page.page_at}
use Rattle.pk_plan.specs.declared.owner.Owner.TheVariants.{Journal, Values as for_values}
use Rattle.pk_pool.{specs.declared.state.BlockState.TheVariants.Owned}
use Rattle.pk_pool.{specs.Blocks.Blocks, specs.Blocks.PoolOnFlash, proofs.Fitting.block_of, proofs.Fitting.PoolOnFlash-same}
use Rattle.pk_values.specs.Laws.{SameValues}

-- ---- a block of the journal, in which pages differ

module _ (shape : Shape) (pool : Blocks) (old new : Flash) (block : ℕ) (owned : slice_get pool.states block ≡ Some (Owned Journal))
    (others : (k : ℕ) → (k / shape.block_pages ≡ block → ⊥) → page_at new k ≡ page_at old k) where
  -- a page of a block that is none of the journal's
  in_another : (k : ℕ) → (slice_get pool.states (k / shape.block_pages) ≡ Some (Owned Journal) → ⊥) → page_at new k ≡ page_at old k
  in_another k not = others k (λ e. not (subst (λ (x : ℕ). slice_get pool.states x ≡ Some (Owned Journal)) (sym e) owned))

  pub values_same : (outputs : List ℕ) → SameValues shape pool outputs old new
  values_same outputs k held no_output = in_another k (λ other. let its : slice_get pool.states (k / shape.block_pages) ≡ Some (Owned for_values) = held in cc)

  pub still_fits : pool.shape ≡ shape → PoolOnFlash pool old → PoolOnFlash pool new
  still_fits same fits = PoolOnFlash-same pool old new (λ b k is inside.
      let here : k / shape.block_pages ≡ b = subst (λ (s : Shape). k / s.block_pages ≡ b) same (block_of pool.shape.block_pages k b inside.0 inside.1) in
      in_another k (λ other. let its : slice_get pool.states b ≡ Some (Owned Journal) = subst (λ (x : ℕ). slice_get pool.states x ≡ Some (Owned Journal)) here other in cc)) fits
