-- What is spare if blocks were freed.
use Rattle.std.proofs.Common.{◌≡◌, ◌⊎◌, inl, inr, ℕ, List, [], ◌∷◌, Some, sym, ◌∙◌}
use Rattle.std.{specs.Prelude.slice_get, proofs.lemmas.Bool.cases_eq, proofs.lemmas.Option.same_Some}
use Rattle.pk_plan.specs.declared.owner.Owner.TheVariants.{Journal}
use Rattle.pk_pool.specs.declared.state.BlockState.TheVariants.{Free, Ready, Owned}
use Rattle.pk_pool.specs.Blocks.{Blocks, IsSpare, with_state, given_back}
use Rattle.pk_pool.proofs.States.{get-set_other, owned_is_not_free, owned_is_not_ready}
use Rattle.pk_law_steps.proofs.Places.{In}

-- a block with an owner is not spare
pub owned_not_spare : (pool : Blocks) (b : ℕ) → slice_get pool.states b ≡ Some (Owned Journal) → IsSpare pool b → ⊥
owned_not_spare pool b owned (inl free) = owned_is_not_free {o = Journal} (same_Some (Owned Journal) Free (sym owned ∙ free))
owned_not_spare pool b owned (inr ready) = owned_is_not_ready {o = Journal} (same_Some (Owned Journal) Ready (sym owned ∙ ready))

-- what is spare if blocks were freed is one of them, or was spare before
spare_given : (pool : Blocks) (x b : ℕ) → IsSpare (with_state pool x Free) b → (b ≡ x) ⊎ IsSpare pool b
spare_given pool x b spare = elim (cases_eq b x) [
  | inl same ↦ inl same
  | inr other ↦ inr (elim spare [
    | inl free ↦ inl (sym (get-set_other pool.states x b Free other) ∙ free)
    | inr ready ↦ inr (sym (get-set_other pool.states x b Free other) ∙ ready)
  ])
]

pub spare_back : (blocks : List ℕ) (pool : Blocks) (b : ℕ) → IsSpare (given_back pool blocks) b → In b blocks ⊎ IsSpare pool b
spare_back [] pool b spare = inr spare
spare_back (x ∷ xs) pool b spare = elim (spare_back xs (with_state pool x Free) b spare) [
  | inl among ↦ inl (inr among)
  | inr still ↦ elim (spare_given pool x b still) [ inl same ↦ inl (inl same) | inr was ↦ inr was ]
]
