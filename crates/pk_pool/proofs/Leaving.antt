-- Blocks that leave their owner, until they are freed.
use Rattle.std.proofs.Common.{◌≡◌, ◌⊎◌, inl, inr, ℕ, zero, suc, ◌≤◌, List, [], ◌∷◌, Some, map, refl, ap, ◌∙◌, arith}
use Rattle.std.{specs.Prelude.count_by, specs.Prelude.slice_get, specs.Prelude.not, proofs.Math.ListN.set, proofs.lemmas.List.map-set, proofs.lemmas.List.length-map, proofs.lemmas.Option.same_Some}
use Rattle.std.proofs.lemmas.List.Sums.{sum_by-cons}
use Rattle.pk_base.{specs.Shape.Shape, specs.Page.Flash}
use Rattle.pk_plan.specs.declared.owner.Owner.{Owner}
use Rattle.pk_pool.{specs.declared.state.BlockState.BlockState, proofs.Sharing.count-set}
use Rattle.pk_pool.specs.declared.state.BlockState.TheVariants.{Root, Free, Ready, Owned, Leaving}
use Rattle.pk_pool.specs.Blocks.{Blocks, is_root, is_ready, is_owned_by, used_by, with_state, given_back, freed_state, freed, IsShared, IsSpare, IsLeaving, NoneLeaves, PoolOnFlash}
use Rattle.pk_pool.specs.Leaving.{LeftAndFreed, FreedWith, FreedSame, SpareFreed, LeavingFreed, OwnedFreed, LeftUnready, FreedUnready}

-- ---- one block leaves

pub used_left : (states : List BlockState) (b : ℕ) (o p : Owner) → slice_get states b ≡ Some (Owned o) → used_by p (set states b (Leaving o)) ≡ used_by p states
used_left states b o p h = omega (arith, count-set (is_owned_by p) states b (Owned o) (Leaving o) h)

pub left_unready : LeftUnready
left_unready states b o p is = omega (arith, count-set (λ s. not (is_ready s)) states b (Owned o) (Leaving p) is)

-- ---- all that leave are freed

-- what a state was, from what it is then
pub state_before : (states : List BlockState) (b : ℕ) (s : BlockState) → slice_get (map freed_state states) b ≡ Some s → (t : BlockState) × (slice_get states b ≡ Some t) × (freed_state t ≡ s)
state_before [] b s h = cc
state_before (t ∷ ts) zero s h = (t, refl, same_Some (freed_state t) s h)
state_before (t ∷ ts) (suc b) s h = state_before ts b s h

-- and what it is, from what it was
pub state_after : (states : List BlockState) (b : ℕ) (t : BlockState) → slice_get states b ≡ Some t → slice_get (map freed_state states) b ≡ Some (freed_state t)
state_after [] b t h = cc
state_after (s ∷ ss) zero t h = ap (λ x. Some (freed_state x)) (same_Some s t h)
state_after (s ∷ ss) (suc b) t h = state_after ss b t h

-- a state that no freed block has was there before
was_ready : (t : BlockState) → freed_state t ≡ Ready → t ≡ Ready
was_ready Ready h = refl
was_ready _ h = cc

was_owned : (t : BlockState) (o : Owner) → freed_state t ≡ Owned o → t ≡ Owned o
was_owned (Owned p) o h = h
was_owned _ o h = cc

was_free : (t : BlockState) → freed_state t ≡ Free → (t ≡ Free) ⊎ ((o : Owner) × (t ≡ Leaving o))
was_free Free h = inl refl
was_free (Leaving o) h = inr (o, refl)
was_free _ h = cc

none_is_leaving : (t : BlockState) (o : Owner) → freed_state t ≡ Leaving o → ⊥
none_is_leaving Root o h = cc
none_is_leaving _ o h = cc

pub none_leaves : (p : Blocks) → NoneLeaves (freed p)
none_leaves p b o h = let was = state_before p.states b (Leaving o) h in none_is_leaving was.0 o was.2

used_map : (o : Owner) (states : List BlockState) → used_by o (map freed_state states) ≤ used_by o states
used_map o [] = omega arith
used_map o (Root ∷ ss) = omega (arith, used_map o ss, sum_by-cons {X = BlockState})
used_map o (_ ∷ ss) = omega (arith, used_map o ss, sum_by-cons {X = BlockState})

pub freed_used : (p : Blocks) (o : Owner) → used_by o (freed p).states ≤ used_by o p.states
freed_used p o = used_map o p.states

roots_freed : (states : List BlockState) → count_by is_root (map freed_state states) ≡ count_by is_root states
roots_freed [] = refl
roots_freed (Root ∷ ss) = omega (arith, roots_freed ss, sum_by-cons {X = BlockState})
roots_freed (_ ∷ ss) = omega (arith, roots_freed ss, sum_by-cons {X = BlockState})

pub shared_freed : (shape : Shape) (states : List BlockState) → IsShared shape states → IsShared shape (map freed_state states)
shared_freed shape states i = record {
  plan = i.plan;
  size = length-map states freed_state ∙ i.size;
  first = state_after states 0 Root i.first;
  second = state_after states 1 Root i.second;
  roots = roots_freed states ∙ i.roots;
  within = λ o. omega (arith, used_map o states, i.within o);
}

-- the same blocks count as erased
pub freed_fits : (p : Blocks) (f : Flash) → PoolOnFlash p f → PoolOnFlash (freed p) f
freed_fits p f fits = record {
  erased = λ b is. let was = state_before p.states b Ready is in fits.erased b (was.1 ∙ ap Some (was_ready was.0 was.2));
}

pub unfreed_fits : (p : Blocks) (f : Flash) → PoolOnFlash (freed p) f → PoolOnFlash p f
unfreed_fits p f fits = record { erased = λ b is. fits.erased b (state_after p.states b Ready is) }

-- ---- the laws

states_same : (states : List BlockState) → ((b : ℕ) (o : Owner) → slice_get states b ≡ Some (Leaving o) → ⊥) → map freed_state states ≡ states
states_same [] none = refl
states_same (Leaving o ∷ ss) none = absurd (none 0 o refl)
states_same (s ∷ ss) none = ap (λ xs. s ∷ xs) (states_same ss (λ b. none (suc b)))

pub freed_same : FreedSame
freed_same p none = ap (λ states. record { shape = p.shape; states = states }) (states_same p.states none)

pub freed_set : FreedWith
freed_set p b s = ap (λ states. record { shape = p.shape; states = states }) (map-set freed_state p.states b s)

pub left_and_freed : LeftAndFreed
left_and_freed o p [] = refl
left_and_freed o p (b ∷ bs) = left_and_freed o (with_state p b (Leaving o)) bs ∙ ap (λ q. given_back q bs) (freed_set p b (Leaving o))

spare_then : (p : Blocks) (b : ℕ) → IsSpare p b → IsSpare (freed p) b
spare_then p b (inl free) = inl (state_after p.states b Free free)
spare_then p b (inr ready) = inr (state_after p.states b Ready ready)

spare_before : (p : Blocks) (b : ℕ) → IsSpare (freed p) b → IsSpare p b ⊎ IsLeaving p b
spare_before p b (inl free) = let was = state_before p.states b Free free in elim (was_free was.0 was.2) [
  | inl same ↦ inl (inl (was.1 ∙ ap Some same))
  | inr left ↦ inr (left.0, was.1 ∙ ap Some left.1)
]
spare_before p b (inr ready) = let was = state_before p.states b Ready ready in inl (inr (was.1 ∙ ap Some (was_ready was.0 was.2)))

pub spare_freed : SpareFreed
spare_freed p b = (spare_then p b, spare_before p b)

pub leaving_freed : LeavingFreed
leaving_freed p b left = inl (state_after p.states b (Leaving left.0) left.1)

pub freed_owned : (p : Blocks) (b : ℕ) (o : Owner) → slice_get (freed p).states b ≡ Some (Owned o) → slice_get p.states b ≡ Some (Owned o)
freed_owned p b o is = let was = state_before p.states b (Owned o) is in was.1 ∙ ap Some (was_owned was.0 o was.2)

pub owned_freed : OwnedFreed
owned_freed p b o = (state_after p.states b (Owned o), freed_owned p b o)

unready_map : (states : List BlockState) → count_by (λ s. not (is_ready s)) (map freed_state states) ≡ count_by (λ s. not (is_ready s)) states
unready_map [] = refl
unready_map (Root ∷ ss) = omega (arith, unready_map ss, sum_by-cons {X = BlockState})
unready_map (_ ∷ ss) = omega (arith, unready_map ss, sum_by-cons {X = BlockState})

pub freed_unready : FreedUnready
freed_unready p = unready_map p.states
