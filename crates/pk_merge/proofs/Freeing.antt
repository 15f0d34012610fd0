-- Blocks that are freed one after another.
use Rattle.std.proofs.Common.{◌≡◌, ◌≢◌, ℕ, suc, ◌+◌, ◌<◌, refl, sym, ap, subst, ◌∙◌, arith, List, [], ◌∷◌, length, get_or, drop, drop-cons, slice_get, Some, add-one}
use Rattle.pk_plan.specs.declared.owner.Owner.TheVariants.{Meta}
use Rattle.pk_pool.{specs.declared.state.BlockState.TheVariants.Free, specs.Blocks.Blocks, specs.Blocks.given_back, specs.Blocks.IsOwned, specs.Blocks.with_state, specs.Unready.unready}
use Rattle.pk_pool.{proofs.Counting.given_back as one_given, proofs.States.get-set_other}
use Rattle.pk_merge.specs.Jobs.{AreOwned, LeavesBlocks}

pub first_owned : (pool : Blocks) (blocks : List ℕ) (i : ℕ) → i < length blocks → AreOwned pool (drop i blocks) → IsOwned pool (get_or blocks i 0)
first_owned pool blocks i inside own = (Meta, own.meta 0 (get_or blocks i 0) (ap (λ (xs : List ℕ). slice_get xs 0) (drop-cons blocks i 0 inside)))

rest_owned : (pool : Blocks) (b : ℕ) (rest : List ℕ) → AreOwned pool (b ∷ rest) → AreOwned (with_state pool b Free) rest
rest_owned pool b rest own = record {
  meta = λ i x got.
      let ne : x ≢ b = λ e. let same = own.different (suc i) 0 x got (ap (λ (y : ℕ). Some y) (sym e)) in absurd (omega (arith, same)) in
      get-set_other pool.states b x Free ne ∙ own.meta (suc i) x got;
  different = λ i j x got had. let e = own.different (suc i) (suc j) x got had in omega (arith, e);
}

module _ (pool new : Blocks) (blocks : List ℕ) (i : ℕ) (inside : i < length blocks) (is : new ≡ with_state pool (get_or blocks i 0) Free) where
  pub still_owned : AreOwned pool (drop i blocks) → AreOwned new (drop (i + 1) blocks)
  still_owned own =
      rw (add-one, is) (rest_owned pool (get_or blocks i 0) (drop (suc i) blocks) (subst (λ (xs : List ℕ). AreOwned pool xs) (drop-cons blocks i 0 inside) own))

  pub freed_next : given_back new (drop (i + 1) blocks) ≡ given_back pool (drop i blocks)
  freed_next = rw (add-one, is) (ap (given_back pool) (sym (drop-cons blocks i 0 inside)))

  -- as many blocks are not ready
  pub unready_next : AreOwned pool (drop i blocks) → unready new.states ≡ unready pool.states
  unready_next own =
      ap (λ (p : Blocks). unready p.states) is ∙ one_given pool.states (get_or blocks i 0) Meta (own.meta 0 (get_or blocks i 0) (ap (λ (xs : List ℕ). slice_get xs 0) (drop-cons blocks i 0 inside)))

-- a block that is none of them is what it was
pub freed_others : (pool : Blocks) (blocks : List ℕ) → LeavesBlocks blocks pool (given_back pool blocks)
freed_others pool [] b none = refl
freed_others pool (c ∷ cs) b none = freed_others (with_state pool c Free) cs b (λ i got. none (suc i) got) ∙ get-set_other pool.states c b Free (λ e. none 0 (ap (λ (x : ℕ). Some x) (sym e)))
