-- Counts of blocks after one changes its state.
use Rattle.std.proofs.Common.{◌≡◌, ◌≢◌, ℕ, zero, suc, ◌+◌, ◌<◌, ◌≤◌, inl, inr, Bool, true, false, cond, List, [], ◌∷◌, length, Some, refl, sym, ap, ◌∙◌, arith, length-set}
use Rattle.std.{specs.Prelude.count_by, specs.Prelude.slice_get, proofs.Math.ListN.set, proofs.lemmas.List.Sums.sum_by-set, proofs.lemmas.List.Sums.sum_by-cons}
use Rattle.std.proofs.lemmas.Option.{slice_get_within, get_or_from_slice_get, same_Some}
use Rattle.pk_base.specs.Shape.{Shape}
use Rattle.pk_plan.{specs.declared.owner.Owner.Owner, specs.declared.owner.Owner.TheVariants.Journal, specs.declared.owner.Owner.TheVariants.Meta, specs.declared.owner.Owner.TheVariants.Values}
use Rattle.pk_plan.specs.Quotas.{quota_of}
use Rattle.pk_pool.specs.declared.state.BlockState.{BlockState}
use Rattle.pk_pool.specs.declared.state.BlockState.TheVariants.{Root, Free, Ready, Owned, Leaving}
use Rattle.pk_pool.specs.Blocks.{is_root, is_free, is_ready, is_owned_by, same_owner, used_by, IsShared, IsNowhere, IsSpare, IsOwned}
use Rattle.pk_pool.proofs.States.{get-set_other, free_is_not_root, ready_is_not_root, owned_is_not_root, owned_is_not_free}

-- a count after one state is written
pub count-set : (p : BlockState → Bool) (states : List BlockState) (b : ℕ) (s t : BlockState) → slice_get states b ≡ Some s
    → count_by p (set states b t) + cond (p s) 1 0 ≡ count_by p states + cond (p t) 1 0
count-set p states b s t h =
    rw (get_or_from_slice_get states b s t h) at (sum_by-set (λ x. cond (p x) 1 0) states b t t (slice_get_within states b s h))

-- each block is counted once
pub all_counted : (states : List BlockState)
    → count_by is_root states + count_by is_free states + count_by is_ready states + used_by Journal states + used_by Meta states + used_by Values states ≡ length states
all_counted [] = refl
all_counted (Owned Journal ∷ ss) = omega (arith, all_counted ss, sum_by-cons {X = BlockState})
all_counted (Leaving Journal ∷ ss) = omega (arith, all_counted ss, sum_by-cons {X = BlockState})
all_counted (_ ∷ ss) = omega (arith, all_counted ss, sum_by-cons {X = BlockState})

none_ready : (states : List BlockState) → IsNowhere Ready states → count_by is_ready states ≡ 0
none_ready [] h = refl
none_ready (Ready ∷ ss) h = absurd (h 0 refl)
none_ready (_ ∷ ss) h = omega (arith, none_ready ss (λ k. h (suc k)), sum_by-cons {X = BlockState})

pub none_free : (states : List BlockState) → IsNowhere Free states → count_by is_free states ≡ 0
none_free [] h = refl
none_free (Free ∷ ss) h = absurd (h 0 refl)
none_free (_ ∷ ss) h = omega (arith, none_free ss (λ k. h (suc k)), sum_by-cons {X = BlockState})

-- below its quota an owner finds a block
pub one_is_left : (shape : Shape) (states : List BlockState) (o : Owner) → IsShared shape states → used_by o states < quota_of shape o → IsNowhere Ready states → IsNowhere Free states → ⊥
one_is_left shape states Journal i h r f = omega (arith, all_counted states, none_ready states r, none_free states f, i.roots, i.plan.shared, i.size, i.within Journal, i.within Meta, i.within Values)
one_is_left shape states _ i h r f = omega (arith, all_counted states, none_ready states r, none_free states f, i.roots, i.plan.shared, i.size, i.within Journal, i.within Meta, i.within Values)

-- a block that is no root block comes after them
pub behind_roots : (shape : Shape) (states : List BlockState) (b : ℕ) (s : BlockState) → (Root ≡ s → ⊥) → slice_get states b ≡ Some s → IsShared shape states → 2 ≤ b
behind_roots shape states zero s not_root h i = absurd (not_root (same_Some Root s (sym i.first ∙ h)))
behind_roots shape states (suc zero) s not_root h i = absurd (not_root (same_Some Root s (sym i.second ∙ h)))
behind_roots shape states (suc (suc b)) s not_root h i = omega arith

-- it exists
pub exists : (shape : Shape) (states : List BlockState) (b : ℕ) (s : BlockState) → slice_get states b ≡ Some s → IsShared shape states → b < shape.blocks
exists shape states b s h i = omega (arith, slice_get_within states b s h, i.size)

-- and there are few
pub few : (shape : Shape) (states : List BlockState) (b : ℕ) (s : BlockState) → slice_get states b ≡ Some s → IsShared shape states → b < 4096
few shape states b s h i = omega (arith, exists shape states b s h i, i.plan.is_shape.blocks_most)

not_root_is : (s : BlockState) → (Root ≡ s → ⊥) → is_root s ≡ false
not_root_is Root h = absurd (h refl)
not_root_is _ h = refl

-- a block that is no root block becomes another one that is none
module _ (shape : Shape) (states : List BlockState) (b : ℕ) (s t : BlockState) (s_is : Root ≡ s → ⊥) (t_is : Root ≡ t → ⊥) (h : slice_get states b ≡ Some s) (i : IsShared shape states) where
  root_kept : (k : ℕ) → k < 2 → slice_get states k ≡ Some Root → slice_get (set states b t) k ≡ Some Root
  root_kept k low is = get-set_other states b k t (λ e. absurd (omega (arith, low, e, behind_roots shape states b s s_is h i))) ∙ is

  pub shared_set : ((o : Owner) → used_by o (set states b t) ≤ quota_of shape o) → IsShared shape (set states b t)
  shared_set within =
      let s_not : cond {A = ℕ} (is_root s) 1 0 ≡ 0 = rw (not_root_is s s_is) refl in
      let t_not : cond {A = ℕ} (is_root t) 1 0 ≡ 0 = rw (not_root_is t t_is) refl in
      record {
        plan = i.plan;
        size = length-set states b t ∙ i.size;
        first = root_kept 0 (omega arith) i.first;
        second = root_kept 1 (omega arith) i.second;
        roots = omega (arith, count-set is_root states b s t h, i.roots, s_not, t_not);
        within = within;
      }

within_taken : (shape : Shape) (states : List BlockState) (b : ℕ) (s : BlockState) (o p : Owner) → slice_get states b ≡ Some s
    → IsShared shape states → used_by o states < quota_of shape o → used_by p (set states b (Owned o)) ≤ quota_of shape p
within_taken shape states b s Journal Journal h i below = omega (arith, count-set (is_owned_by Journal) states b s (Owned Journal) h, i.within Journal, below)
within_taken shape states b s Meta Journal h i below = omega (arith, count-set (is_owned_by Journal) states b s (Owned Meta) h, i.within Journal, below)
within_taken shape states b s Values Journal h i below = omega (arith, count-set (is_owned_by Journal) states b s (Owned Values) h, i.within Journal, below)
within_taken shape states b s o p h i below = omega (arith, count-set (is_owned_by p) states b s (Owned o) h, i.within p, below)

same_is : (o : Owner) → same_owner o o ≡ true
same_is Journal = refl
same_is _ = refl

-- the owner of a free block that is taken has one more
pub used_taken : (states : List BlockState) (b : ℕ) (s : BlockState) (o : Owner) → is_owned_by o s ≡ false → slice_get states b ≡ Some s → used_by o (set states b (Owned o)) ≡ used_by o states + 1
used_taken states b s o free h =
    let none : cond {A = ℕ} (is_owned_by o s) 1 0 ≡ 0 = rw free refl in
    let one : cond {A = ℕ} (same_owner o o) 1 0 ≡ 1 = rw (same_is o) refl in
    omega (arith, count-set (is_owned_by o) states b s (Owned o) h, none, one)

pub used_adopted : (shape : Shape) (states : List BlockState) (b : ℕ) (o : Owner) → IsSpare (record { shape = shape; states = states }) b → used_by o (set states b (Owned o)) ≡ used_by o states + 1
used_adopted shape states b o (inl free) = used_taken states b Free o refl free
used_adopted shape states b o (inr ready) = used_taken states b Ready o refl ready

-- the owner of a block that is given back has one less
pub used_given : (states : List BlockState) (b : ℕ) (o : Owner) → slice_get states b ≡ Some (Owned o) → used_by o (set states b Free) + 1 ≡ used_by o states
used_given states b o h =
    let one : cond {A = ℕ} (same_owner o o) 1 0 ≡ 1 = rw (same_is o) refl in
    omega (arith, count-set (is_owned_by o) states b (Owned o) Free h, one)

-- a free block gets an owner
pub shared_taken : (shape : Shape) (states : List BlockState) (b : ℕ) (s : BlockState) (o : Owner) → (Root ≡ s → ⊥) → slice_get states b ≡ Some s
    → IsShared shape states → used_by o states < quota_of shape o → IsShared shape (set states b (Owned o))
shared_taken shape states b s o not_root h i below =
    shared_set shape states b s (Owned o) not_root owned_is_not_root h i (λ p. within_taken shape states b s o p h i below)

-- the same, for either kind of free block
pub shared_adopted : (shape : Shape) (states : List BlockState) (b : ℕ) (o : Owner) → IsSpare (record { shape = shape; states = states }) b
    → IsShared shape states → used_by o states < quota_of shape o → IsShared shape (set states b (Owned o))
shared_adopted shape states b o (inl free) i below = shared_taken shape states b Free o free_is_not_root free i below
shared_adopted shape states b o (inr ready) i below = shared_taken shape states b Ready o ready_is_not_root ready i below

-- a block without an owner takes no more of a quota
within_freed : (shape : Shape) (states : List BlockState) (b : ℕ) (s t : BlockState) (p : Owner) → slice_get states b ≡ Some s → is_owned_by p t ≡ false
    → IsShared shape states → used_by p (set states b t) ≤ quota_of shape p
within_freed shape states b s t p h free i =
    let none : cond {A = ℕ} (is_owned_by p t) 1 0 ≡ 0 = rw free refl in
    omega (arith, count-set (is_owned_by p) states b s t h, i.within p, none)

-- a block is given back
pub shared_given : (shape : Shape) (states : List BlockState) (b : ℕ) (o : Owner) → slice_get states b ≡ Some (Owned o) → IsShared shape states → IsShared shape (set states b Free)
shared_given shape states b o h i =
    shared_set shape states b (Owned o) Free owned_is_not_root free_is_not_root h i (λ p. within_freed shape states b (Owned o) Free p h refl i)

-- a block is erased
pub shared_ready : (shape : Shape) (states : List BlockState) (b : ℕ) → slice_get states b ≡ Some Free → IsShared shape states → IsShared shape (set states b Ready)
shared_ready shape states b h i =
    shared_set shape states b Free Ready free_is_not_root ready_is_not_root h i (λ p. within_freed shape states b Free Ready p h refl i)

-- a block with an owner is another than a free one
pub free_not_owned : (shape : Shape) (states : List BlockState) (free b : ℕ) → slice_get states free ≡ Some Free → IsOwned (record { shape = shape; states = states }) b → b ≢ free
free_not_owned shape states free b is owned same =
    owned_is_not_free {o = owned.0} (same_Some (Owned owned.0) Free (sym owned.1 ∙ (ap (slice_get states) same ∙ is)))
